use Rattle.std.proofs.Common.{sym, ap, ◌∙◌, subst}
use Rattle.summary_merge.specs.Runs.{AreNeighbours, all_joined}
use Rattle.part_cases.proofs.Runs.{are_neighbours, all_lone}
use Rattle.part_cases.proofs.merging.ranged.Goals as goal

pub merge_range-requires : goal.merge_range-requires
merge_range-requires c = subst AreNeighbours (sym c.in_ok-runs.ensures) (are_neighbours c.args.shard.count c.args.shard.number 0 c.args.chunks.now)

pub returns : goal.returns
returns c = c.in_ok-run.ensures ∙ ap all_joined c.in_ok-runs.ensures ∙ all_lone c.args.shard.count c.args.shard.number c.args.chunks.now
