use Rattle.division_cut.proofs.cutting.+chunks_from.Given as goal

abbrev pub decreases-chunks_from : goal.decreases-chunks_from
decreases-chunks_from l = l.times
