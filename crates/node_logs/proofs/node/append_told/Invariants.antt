use Rattle.std.proofs.Common.{◌≡◌, ◌++◌}
use Rattle.node_logs.proofs.node.append_told.Given as goal

abbrev pub invariant-loop-told : goal.invariant-loop-told
invariant-loop-told l = l.log.items ++ l.told-iterator.rest.items ≡ l.initial.log.items ++ l.initial.told-iterator.rest.items
