use Rattle.std.proofs.Common.{sym, subst}
use Rattle.ld_tree.specs.View.{view}
use Rattle.expand_model.specs.Scope.{Options}
use Rattle.expand_types.specs.View.{word_view}
use Rattle.cut_model.specs.Legal.{IsLegal}
use Rattle.cut_model.specs.Reached.{IsFaithful}
use Rattle.subtree_cut.proofs.expanding.expand_by_weight.Goals as goal

pub graft_owned-requires-clause-legal : goal.graft_owned-requires-clause-legal
graft_owned-requires-clause-legal c =
    let o : Options = record { base = word_view c.args.base; contexts = c.args.store.now } in
    subst IsLegal (sym c.in_ok-plan.ensures) (c.cuts_are_legal.ensures o (view c.args.tree.now) c.args.weight c.keys_ascend.ensures)

pub graft_owned-requires-clause-faithful : goal.graft_owned-requires-clause-faithful
graft_owned-requires-clause-faithful c =
    let o : Options = record { base = word_view c.args.base; contexts = c.args.store.now } in
    subst (IsFaithful o (view c.args.tree.now)) (sym c.in_ok-plan.ensures) (c.cuts_are_faithful.ensures o (view c.args.tree.now) c.args.weight c.keys_ascend.ensures)
