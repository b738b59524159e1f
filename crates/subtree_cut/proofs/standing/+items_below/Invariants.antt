use Rattle.std.proofs.Common.{length}
use Rattle.subtree_cut.proofs.standing.+items_below.Given as goal

abbrev pub decreases-items_below : goal.decreases-items_below
decreases-items_below l = length l.steps.now
