use Rattle.std.proofs.Common.{◌≡◌, ◌++◌}
use Rattle.flatten_out.proofs.flattening.copy_of.Given as goal

abbrev pub invariant-loop-key : goal.invariant-loop-key
invariant-loop-key l = l.copy ++ l.key-iterator ≡ l.initial.key-iterator
