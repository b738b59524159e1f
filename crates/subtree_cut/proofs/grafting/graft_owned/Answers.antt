use Rattle.std.proofs.Common.{subst}
use Rattle.expand_types.specs.View.{word_view}
use Rattle.subtree_cut.specs.View.{plan_view}
use Rattle.subtree_cut.specs.Results.{AreResults}
use Rattle.subtree_cut.proofs.InOrder.{known_are_results}
use Rattle.subtree_cut.proofs.grafting.graft_owned.Goals as goal

pub grafted-requires-clause-results : goal.grafted-requires-clause-results
grafted-requires-clause-results c =
    known_are_results _ (plan_view c.args.plan.now) c.in_ok-left.left
    (subst (λ rs. AreResults (record { base = word_view c.args.base; contexts = c.args.store.now }) (plan_view c.args.plan.now) rs) c.in_ok-left.ensures c.requires.results)
