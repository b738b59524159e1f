use Rattle.std.proofs.Common.{◌≡◌, ◌+◌, ◌*◌, ◌≤◌}
use Rattle.ld_model.specs.Tree.{weight, trees_weight, members_weight, trees_of, members_of}
use Rattle.ld_tree.specs.View.{view}
use Rattle.node_logs.specs.TreeOrder.{trees_order, members_order}
use Rattle.node_logs.proofs.tree_order.+order.Given as goal

abbrev pub decreases-compare : goal.decreases-compare
decreases-compare l = 3 * weight (view l.a.now)

abbrev pub decreases-compare_items : goal.decreases-compare_items
decreases-compare_items l = 3 * trees_weight (trees_of l.a.now) + 1

abbrev pub decreases-compare_members : goal.decreases-compare_members
decreases-compare_members l = 3 * members_weight (members_of l.a.now) + 2

abbrev pub decreases-compare_member : goal.decreases-compare_member
decreases-compare_member l = 3 * weight (view l.tree.now) + 1

abbrev pub invariant-compare_items-loop-tree : goal.invariant-compare_items-loop-tree
invariant-compare_items-loop-tree l =
    record {
      left : trees_order (trees_of l.tree-iterator) (trees_of l.others) ≡ trees_order (trees_of l.initial.tree-iterator) (trees_of l.initial.others);
      lighter : trees_weight (trees_of l.tree-iterator) ≤ trees_weight (trees_of l.initial.tree-iterator);
    }

abbrev pub invariant-compare_members-loop-key : goal.invariant-compare_members-loop-key
invariant-compare_members-loop-key l =
    record {
      left : members_order (members_of l.key-iterator) (members_of l.others) ≡ members_order (members_of l.initial.key-iterator) (members_of l.initial.others);
      lighter : members_weight (members_of l.key-iterator) ≤ members_weight (members_of l.initial.key-iterator);
    }
