use Rattle.std.proofs.Common.{sym, subst}
use Rattle.part_cases.specs.Chunks.{AreSound}
use Rattle.part_cases.proofs.Numbered.{one_more}
use Rattle.part_cases.proofs.division.add_chunk.Goals as goal

pub returns : goal.returns
returns c = subst AreSound (sym c.in_ok-push.ensures.items) (one_more c.args.made.now.chunks.items c.in_ok-ops.ops c.requires c.in_ok-ops.ensures)
