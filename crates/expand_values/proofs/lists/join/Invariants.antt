use Rattle.std.proofs.Common.{◌≡◌, ◌++◌}
use Rattle.expand_values.proofs.lists.join.Given as goal

abbrev pub invariant-loop-item : goal.invariant-loop-item
invariant-loop-item l = l.items ++ l.item-iterator ≡ l.initial.items ++ l.initial.item-iterator
