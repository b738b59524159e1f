use Rattle.ld_tree.proofs.ViewLemmas.{same_trees-lengths}
use Rattle.subtree_cut.proofs.standing.are_same.Goals as goal

pub returns-then-items-others : goal.returns-then-items-others
returns-then-items-others c = same_trees-lengths c.args.items.now c.args.others.now c.if-items-others.true
