-- That shards are the node map also once their nodes are finished.
use Rattle.std.specs.Prelude.{ℕ, ◌^◌, ◌≡◌, ◌≤◌, ◌<◌, List, length, map as each}
use Rattle.ld_model.specs.Tree.{Tree}
use Rattle.node_model.specs.Generating.{generate}
use Rattle.op_model.specs.Noting.{Chunk, ops_of_chunks}
use Rattle.sum_model.specs.Sums.{placed_chunks}
use Rattle.shard_model.specs.Joined.{with_count}
use Rattle.shard_laws.specs.Laws.{labels_by, ops_by_chunk, shards_of}
use Rattle.division_model.specs.Dividing.{IsDivision}
use Rattle.label_repair.specs.Finished.{finished, finished_joined}

-- The shards of a division, each finished, and all of them put together, are what node map generation gives, with as many labels as there
-- are names among it.
abbrev pub FinishedShardsAreGeneration : Type 0
FinishedShardsAreGeneration =
    (shards : ℕ) → 0 < shards → (chunks : List Chunk) (items : List Tree) → IsDivision chunks items
    → let names = labels_by (ops_of_chunks 0 chunks) in
    length names ≤ 2 ^ 64
    → let all = shards_of names shards (placed_chunks 0 (ops_by_chunk 0 chunks)) in
    with_count (length names) (finished_joined (each finished all)) ≡ generate items
