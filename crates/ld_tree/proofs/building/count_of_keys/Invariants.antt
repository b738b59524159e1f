use Rattle.std.proofs.Common.{length}
use Rattle.ld_tree.proofs.building.count_of_keys.Given as goal

abbrev pub decreases-loop-rest : goal.decreases-loop-rest
decreases-loop-rest l = length l.rest
