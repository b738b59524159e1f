use Rattle.std.proofs.Common.{◌≡◌, ◌++◌}
use Rattle.op_types.proofs.op.Ops.copy.Given as goal

abbrev pub invariant-loop-op : goal.invariant-loop-op
invariant-loop-op l = l.copy ++ l.op-iterator ≡ l.initial.op-iterator
