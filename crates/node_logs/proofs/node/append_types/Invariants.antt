use Rattle.std.proofs.Common.{◌≡◌, ◌++◌}
use Rattle.node_logs.proofs.node.append_types.Given as goal

abbrev pub invariant-loop-name : goal.invariant-loop-name
invariant-loop-name l = l.types.items ++ l.name-iterator.rest.items ≡ l.initial.types.items ++ l.initial.name-iterator.rest.items
