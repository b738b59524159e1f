use Rattle.std.proofs.Common.{sym, ap₂, ◌∙◌}
use Rattle.expand_model.specs.Values.{add_all}
use Rattle.expand_entries.proofs.Types.{lone_type}
use Rattle.expand_entries.proofs.finish.with_types.Goals as goal

pub returns : goal.returns
returns c =
    c.in_ok-add_all.ensures ∙ ap₂ (λ k ts. add_all k ts c.args.entries) c.in_ok-new.ensures c.new-2.ensures
    ∙ lone_type c.args.entries (sym c.has_lone_type.ensures ∙ c.if-not-has_lone_type.false)
