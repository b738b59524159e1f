use Rattle.std.proofs.Common.{length}
use Rattle.part_cases.proofs.merging.+merged.Given as goal

abbrev pub decreases-merged : goal.decreases-merged
decreases-merged l = length l.chunks.now
