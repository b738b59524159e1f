use Rattle.part_cases.specs.Chunks.{AreSound}
use Rattle.part_cases.proofs.division.chunks_of.Given as goal

abbrev pub invariant-loop-end : goal.invariant-loop-end
invariant-loop-end l = AreSound l.made.chunks.items
