use Rattle.std.proofs.Common.{[], refl}
use Rattle.ld_tree.specs.View.{view}
use Rattle.expand_types.specs.View.{word_view}
use Rattle.subtree_cut.specs.View.{plan_view}
use Rattle.subtree_cut.specs.Results.{outcomes_of}
use Rattle.tree_expand.proofs.Steps.{answers_of}
use Rattle.subtree_cut.proofs.InOrder.{cursor_run}
use Rattle.subtree_cut.proofs.grafting.grafted.Goals as goal

pub returns : goal.returns
returns c =
    answers_of c.document_over.result (λ ts. ts) c.document_over.new.ranges _ _
    (cursor_run (record { base = word_view c.args.base; contexts = c.args.store.now }) (plan_view c.args.plan.now) (outcomes_of c.args.left) c.requires.legal (view c.args.tree.now) _ c.requires.faithful c.requires.results
    (record { plan_is = refl; next_is = refl; taken = []; results = refl; as_many = refl }))
    c.document_over.ensures
