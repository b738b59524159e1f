use Rattle.std.proofs.Common.{◌≡◌, ◌≤◌, ◌++◌}
use Rattle.ld_model.specs.Tree.{weight as tree_weight, trees_weight, members_weight, trees_of, members_of}
use Rattle.ld_tree.specs.View.{view}
use Rattle.ld_tree.proofs.value.Tree.+copy.Given as goal

abbrev pub decreases-copy : goal.decreases-copy
decreases-copy l = tree_weight (view l.self.now)

abbrev pub invariant-loop-tree : goal.invariant-loop-tree
invariant-loop-tree l =
    record {
      copied : l.items ++ l.tree-iterator ≡ l.initial.tree-iterator;
      lighter : trees_weight (trees_of l.tree-iterator) ≤ trees_weight (trees_of l.initial.tree-iterator);
    }

abbrev pub invariant-loop-key : goal.invariant-loop-key
invariant-loop-key l =
    record {
      copied : l.pairs ++ l.key-iterator ≡ l.initial.key-iterator;
      lighter : members_weight (members_of l.key-iterator) ≤ members_weight (members_of l.initial.key-iterator);
    }
