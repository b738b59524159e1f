use Rattle.std.proofs.Common.{◌≡◌, ◌++◌}
use Rattle.node_ops.proofs.generation.copy_of.Given as goal

abbrev pub invariant-loop-item : goal.invariant-loop-item
invariant-loop-item l = l.copy ++ l.item-iterator ≡ l.initial.item-iterator
