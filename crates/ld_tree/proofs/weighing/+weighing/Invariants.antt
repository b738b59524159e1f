use Rattle.std.proofs.Common.{◌≡◌, ◌+◌, ◌-◌, ◌*◌, ◌^◌, ◌<◌, ◌≤◌, min}
use Rattle.ld_model.specs.Tree.{weight, trees_weight, members_weight, trees_of, members_of}
use Rattle.ld_tree.specs.View.{view}
use Rattle.ld_tree.proofs.weighing.+weighing.Given as goal

abbrev pub decreases-weight : goal.decreases-weight
decreases-weight l = 2 * weight (view l.tree.now)

abbrev pub decreases-items_weight : goal.decreases-items_weight
decreases-items_weight l = 2 * trees_weight (trees_of l.trees.now) + 1

abbrev pub decreases-pairs_weight : goal.decreases-pairs_weight
decreases-pairs_weight l = 2 * members_weight (members_of l.members.now) + 1

abbrev pub invariant-items_weight-loop-tree : goal.invariant-items_weight-loop-tree
invariant-items_weight-loop-tree l =
    record {
      small : l.sum < 2 ^ 64;
      left : min (l.sum + trees_weight (trees_of l.tree-iterator)) (2 ^ 64 - 1) ≡ min (trees_weight (trees_of l.initial.tree-iterator)) (2 ^ 64 - 1);
      lighter : trees_weight (trees_of l.tree-iterator) ≤ trees_weight (trees_of l.initial.tree-iterator);
    }

abbrev pub invariant-pairs_weight-loop-tree : goal.invariant-pairs_weight-loop-tree
invariant-pairs_weight-loop-tree l =
    record {
      small : l.sum < 2 ^ 64;
      left : min (l.sum + members_weight (members_of l.tree-iterator)) (2 ^ 64 - 1) ≡ min (members_weight (members_of l.initial.tree-iterator)) (2 ^ 64 - 1);
      lighter : members_weight (members_of l.tree-iterator) ≤ members_weight (members_of l.initial.tree-iterator);
    }
