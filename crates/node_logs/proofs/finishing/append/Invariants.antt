use Rattle.std.proofs.Common.{◌≡◌, ◌++◌}
use Rattle.node_logs.proofs.finishing.append.Given as goal

abbrev pub invariant-loop-entry : goal.invariant-loop-entry
invariant-loop-entry l = l.held ++ l.entry-iterator ≡ l.initial.held ++ l.initial.entry-iterator
