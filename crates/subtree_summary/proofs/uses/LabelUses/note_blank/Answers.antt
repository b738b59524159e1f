use Rattle.std.proofs.Common.{ap, ◌∙◌}
use Rattle.op_types.specs.View.{names_view}
use Rattle.op_model.specs.Running.{with_name}
use Rattle.subtree_summary.proofs.Used.{already_used, inserted_name}
use Rattle.subtree_summary.proofs.uses.LabelUses.note_blank.Goals as goal

pub returns-then-ends_with : goal.returns-then-ends_with
returns-then-ends_with c = already_used c.args.self.now.names.keys c.args.name.now (c.ends_with.ensures c.if-ends_with.true)

pub returns : goal.returns
returns c =
    ap names_view c.in_ok-insert.ensures.keys
    ∙ inserted_name c.args.self.now.names.keys c.in_ok-copy.field-0
    ∙ ap (with_name (names_view c.args.self.now.names.keys)) c.in_ok-copy.ensures
