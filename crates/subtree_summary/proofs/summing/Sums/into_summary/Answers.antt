use Rattle.std.proofs.Common.{ap}
use Rattle.subtree_summary.specs.Summing.{part_at}
use Rattle.subtree_summary.proofs.Joining.{of_part}
use Rattle.subtree_summary.proofs.summing.Sums.into_summary.Goals as goal

pub returns-clause-parts : goal.returns-clause-parts
returns-clause-parts c =
    let s = c.args.self.sharded in (
      c.into_parts-parts.ensures.length,
      λ k. of_part c.into_parts-parts.result.items k (part_at s.parts.items k) (ap (λ ps. part_at ps.items k) c.into_parts-parts.ensures.parts),
    )
