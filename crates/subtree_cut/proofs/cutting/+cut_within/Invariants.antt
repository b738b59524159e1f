use Rattle.subtree_cut.proofs.cutting.+cut_within.Given as goal

abbrev pub decreases-cut_within : goal.decreases-cut_within
decreases-cut_within l = l.times
