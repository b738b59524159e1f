use Rattle.std.proofs.Common.{Some, sym, ap, ◌∙◌}
use Rattle.op_types.specs.View.{name_view}
use Rattle.subtree_summary.specs.Log.{properties_view, last_property}
use Rattle.subtree_summary.proofs.Logs.{has_last, last_of, nothing_behind}
use Rattle.subtree_summary.proofs.entry.tell_property.Goals as goal

pub returns-then-ends_with-clause-told : goal.returns-then-ends_with-clause-told
returns-then-ends_with-clause-told c = has_last c.args.log.now.items (name_view c.args.property.now) (ap last_property (sym c.as_slice.ensures.value) ∙ c.ends_with.ensures c.if-ends_with.true)

pub returns-then-ends_with-clause-last : goal.returns-then-ends_with-clause-last
returns-then-ends_with-clause-last c = ap last_property (sym c.as_slice.ensures.value) ∙ c.ends_with.ensures c.if-ends_with.true

pub returns-clause-told : goal.returns-clause-told
returns-clause-told c =
    ap properties_view c.in_ok-push_told.ensures
    ∙ nothing_behind c.args.log.now.items c.in_ok-told.told (name_view c.args.property.now) c.in_ok-told.ensures.property c.in_ok-told.ensures.entries

pub returns-clause-last : goal.returns-clause-last
returns-clause-last c =
    ap last_property c.in_ok-push_told.ensures
    ∙ last_of c.args.log.now.items c.in_ok-told.told
    ∙ ap Some c.in_ok-told.ensures.property
