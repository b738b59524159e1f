use Rattle.std.proofs.Common.{◌+◌, ◌*◌, ◌≤◌}
use Rattle.ld_model.specs.Tree.{AreAscending, weight, trees_weight, members_weight, trees_of, members_of}
use Rattle.ld_tree.specs.View.{view}
use Rattle.cut_model.specs.KeysAscend.{KeysAscendInItems, KeysAscendInValues}
use Rattle.subtree_cut.proofs.ascending.+ascending.Given as goal

abbrev pub decreases-keys_ascend : goal.decreases-keys_ascend
decreases-keys_ascend l = 2 * weight (view l.tree.now)

abbrev pub decreases-keys_ascend_in_items : goal.decreases-keys_ascend_in_items
decreases-keys_ascend_in_items l = 2 * trees_weight (trees_of l.trees.now) + 1

abbrev pub decreases-keys_ascend_in_values : goal.decreases-keys_ascend_in_values
decreases-keys_ascend_in_values l = 2 * members_weight (members_of l.members.now) + 1

-- What is left is of this form, and then so is all.
abbrev pub invariant-keys_ascend_in_items-loop-tree : goal.invariant-keys_ascend_in_items-loop-tree
invariant-keys_ascend_in_items-loop-tree l =
    record {
      left : KeysAscendInItems (trees_of l.tree-iterator) → KeysAscendInItems (trees_of l.initial.tree-iterator);
      lighter : trees_weight (trees_of l.tree-iterator) ≤ trees_weight (trees_of l.initial.tree-iterator);
    }

abbrev pub invariant-keys_ascend_in_values-loop-tree : goal.invariant-keys_ascend_in_values-loop-tree
invariant-keys_ascend_in_values-loop-tree l =
    record {
      ascending : AreAscending l.initial.tree-iterator;
      left : KeysAscendInValues (members_of l.tree-iterator) → KeysAscendInValues (members_of l.initial.tree-iterator);
      lighter : members_weight (members_of l.tree-iterator) ≤ members_weight (members_of l.initial.tree-iterator);
    }
