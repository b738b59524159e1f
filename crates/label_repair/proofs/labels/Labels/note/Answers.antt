use Rattle.std.proofs.Common.{sym, ap, ◌∙◌}
use Rattle.op_model.specs.Running.{with_name}
use Rattle.op_types.specs.View.{name_view, names_view}
use Rattle.label_repair.proofs.Names.{already_there, inserted}
use Rattle.label_repair.proofs.labels.Labels.note.Goals as goal

pub returns-then-contains-clause-ok : goal.returns-then-contains-clause-ok
returns-then-contains-clause-ok c =
    sym c.self.view_is
    ∙ already_there c.self.inside.names.keys c.args.name.now (sym c.contains.ensures ∙ c.if-contains.true)
    ∙ ap (λ names. with_name names (name_view c.args.name.now)) c.self.view_is

pub returns-clause-ok : goal.returns-clause-ok
returns-clause-ok c =
    ap names_view c.in_ok-insert.ensures.keys
    ∙ inserted c.self.inside.names.keys c.in_ok-copy.field-0
    ∙ λ i. with_name (c.self.view_is i) (c.in_ok-copy.ensures i)
