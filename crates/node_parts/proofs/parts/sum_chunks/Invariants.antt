use Rattle.std.proofs.Common.{◌≡◌, drop}
use Rattle.std.specs.Prelude.{map as each}
use Rattle.chunk_ops.specs.Views.{chunk_view}
use Rattle.subtree_summary.specs.OnTheWay.{nothing_said, sums_view}
use Rattle.node_parts.specs.Chunked.{ArePlaced, chunks_said}
use Rattle.node_parts.proofs.parts.sum_chunks.Given as goal

abbrev pub invariant-loop-chunk : goal.invariant-loop-chunk
invariant-loop-chunk l =
    (chunks_said l.all.count (each chunk_view (drop l.chunk-index l.chunks)) (sums_view l.all.sums) ≡ chunks_said 0 (each chunk_view l.chunks) (nothing_said 0 1))
    × ArePlaced (each chunk_view (drop l.chunk-index l.chunks))
