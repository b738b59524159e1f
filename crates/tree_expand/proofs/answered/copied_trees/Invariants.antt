use Rattle.std.proofs.Common.{◌≡◌, ◌++◌}
use Rattle.tree_expand.proofs.answered.copied_trees.Given as goal

abbrev pub invariant-loop-tree : goal.invariant-loop-tree
invariant-loop-tree l = l.copy ++ l.tree-iterator ≡ l.initial.tree-iterator
