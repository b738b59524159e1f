use Rattle.std.proofs.Common.{◌≡◌, ◌++◌}
use Rattle.op_types.proofs.op.Ops.append.Given as goal

abbrev pub invariant-loop-op : goal.invariant-loop-op
invariant-loop-op l = l.self ++ l.op-iterator ≡ l.initial.self ++ l.initial.op-iterator
