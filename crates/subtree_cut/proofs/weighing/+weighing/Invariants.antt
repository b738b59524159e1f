use Rattle.std.proofs.Common.{◌≡◌, ◌+◌, ◌*◌, ◌≤◌, min}
use Rattle.ld_model.specs.Tree.{weight, trees_weight, members_weight, trees_of, members_of}
use Rattle.ld_tree.specs.View.{view}
use Rattle.subtree_cut.specs.Choices.{end_of}
use Rattle.subtree_cut.proofs.weighing.+weighing.Given as goal

abbrev pub decreases-with_weight : goal.decreases-with_weight
decreases-with_weight l = 2 * weight (view l.tree.now)

abbrev pub decreases-with_items : goal.decreases-with_items
decreases-with_items l = 2 * trees_weight (trees_of l.trees.now) + 1

abbrev pub decreases-with_values : goal.decreases-with_values
decreases-with_values l = 2 * members_weight (members_of l.members.now) + 1

abbrev pub invariant-with_items-loop-tree : goal.invariant-with_items-loop-tree
invariant-with_items-loop-tree l =
    record {
      left : min (l.sum + trees_weight (trees_of l.tree-iterator)) (end_of l.limit) ≡ min (l.initial.sum + trees_weight (trees_of l.initial.tree-iterator)) (end_of l.limit);
      lighter : trees_weight (trees_of l.tree-iterator) ≤ trees_weight (trees_of l.initial.tree-iterator);
    }

abbrev pub invariant-with_values-loop-tree : goal.invariant-with_values-loop-tree
invariant-with_values-loop-tree l =
    record {
      left : min (l.sum + members_weight (members_of l.tree-iterator)) (end_of l.limit) ≡ min (l.initial.sum + members_weight (members_of l.initial.tree-iterator)) (end_of l.limit);
      lighter : members_weight (members_of l.tree-iterator) ≤ members_weight (members_of l.initial.tree-iterator);
    }
