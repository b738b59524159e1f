use Rattle.std.proofs.Common.{◌≡◌, slice_get, ap, ◌∙◌}
use Rattle.op_model.specs.Noting.{ops_of}
use Rattle.sum_model.specs.Shards.{in_shard, ops_in}
use Rattle.sum_model.specs.Sums.{placed, sum}
use Rattle.chunk_ops.specs.Views.{chunk_view}
use Rattle.subtree_summary.specs.OnTheWay.{SoFar, nothing_said, sums_view}
use Rattle.subtree_summary.proofs.Joining.{seen_as}
use Rattle.chunk_sums.specs.Summing.{then_said}
use Rattle.chunk_sums.proofs.Told.{from_nothing}
use Rattle.chunk_sums.proofs.chunks.summarise_chunk.Goals as goal

pub returns-clause-parts : goal.returns-clause-parts
returns-clause-parts c =
    let os = ops_of c.args.number (chunk_view c.args.chunk.now) in
    let begun = ap (λ (s : SoFar). then_said c.args.number s os) c.in_ok-before.ensures in
    let ends : sums_view c.in_ok-sums.sums ≡ then_said c.args.number (nothing_said c.args.number c.args.shards) os = c.in_ok-sums.ensures ∙ begun in
    let parts = c.into_summary.ensures.parts in (
      parts.0 ∙ ap (λ (s : SoFar). s.shards) ends,
      λ k. seen_as (slice_get c.into_summary.result.parts.items k) ((sums_view c.in_ok-sums.sums).said k) (sum (ops_in (in_shard c.args.shards k) (placed c.args.number os)))
          (ap (λ (s : SoFar). s.said k) ends ∙ from_nothing c.args.number c.args.shards os k) (parts.1 k),
    )

pub returns-clause-uses : goal.returns-clause-uses
returns-clause-uses c =
    let os = ops_of c.args.number (chunk_view c.args.chunk.now) in
    c.into_summary.ensures.uses ∙ ap (λ (s : SoFar). s.names) (c.in_ok-sums.ensures ∙ ap (λ (s : SoFar). then_said c.args.number s os) c.in_ok-before.ensures)
