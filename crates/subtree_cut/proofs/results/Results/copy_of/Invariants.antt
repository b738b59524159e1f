use Rattle.std.proofs.Common.{◌≡◌, take}
use Rattle.subtree_cut.specs.Results.{known_results}
use Rattle.subtree_cut.proofs.results.Results.copy_of.Given as goal

abbrev pub invariant-loop-outcome : goal.invariant-loop-outcome
invariant-loop-outcome l = known_results l.known.items ≡ take l.outcome-index l.results
