use Rattle.std.proofs.Common.{sym, ap, ◌∙◌}
use Rattle.node_logs.specs.Merged.{properties_ascend}
use Rattle.node_logs.proofs.Logs.{ascending-told}
use Rattle.node_logs.proofs.finishing.merged.Goals as goal

pub returns-then-ascend : goal.returns-then-ascend
returns-then-ascend c = ascending-told c.args.log.items (sym (c.ascend.ensures ∙ ap properties_ascend c.as_slice.ensures.value) ∙ c.if-ascend.true)
