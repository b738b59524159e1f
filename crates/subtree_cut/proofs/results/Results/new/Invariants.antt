use Rattle.std.proofs.Common.{◌≡◌, ◌++◌}
use Rattle.subtree_cut.specs.Results.{known_results}
use Rattle.subtree_cut.proofs.results.Results.new.Given as goal

abbrev pub invariant-loop-outcome : goal.invariant-loop-outcome
invariant-loop-outcome l = known_results l.known.items ++ l.outcome-iterator.rest.items ≡ l.initial.outcome-iterator.rest.items
