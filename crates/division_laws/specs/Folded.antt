-- Sums of neighbouring chunks, joined in any order.
use Rattle.std.specs.Prelude.{ℕ, ◌+◌, ◌^◌, ◌≡◌, ◌≤◌, ◌<◌, List, [], ◌∷◌, ◌++◌, length, Bool, map as each}
use Rattle.std.specs.List.{range_with_len}
use Rattle.ld_model.specs.Tree.{Tree}
use Rattle.node_model.specs.Generating.{generate}
use Rattle.op_model.specs.Names.{Name}
use Rattle.op_model.specs.Ops.{Op}
use Rattle.op_model.specs.Noting.{Chunk}
use Rattle.sum_model.specs.Sums.{Sum, empty_sum, join, sum, placed}
use Rattle.sum_model.specs.Shards.{in_shard, ops_in}
use Rattle.shard_model.specs.Numbered.{names_of}
use Rattle.shard_model.specs.Renamed.{shard_renamed}
use Rattle.shard_model.specs.Joined.{joined, with_count}
use Rattle.shard_laws.specs.Laws.{labels_by, ops_by_chunk}
use Rattle.division_model.specs.Dividing.{IsDivision}

-- A bracketing of sums that stand in a row.
pub data Bracketing : Type 0 where
  no_sum : Bracketing
  one_sum : Sum → Bracketing
  two_sides : (left right : Bracketing) → Bracketing

-- The sums in it, from left to right.
abbrev pub row_of : Bracketing → List Sum
row_of no_sum = []
row_of (one_sum s) = s ∷ []
row_of (two_sides left right) = row_of left ++ row_of right

-- What they come to when they are joined in these brackets.
abbrev pub joined_in : Bracketing → Sum
joined_in no_sum = empty_sum
joined_in (one_sum s) = s
joined_in (two_sides left right) = join (joined_in left) (joined_in right)

-- The sums of chunks that are numbered from this number on, each of the chunk's operations that fall among these names.
abbrev pub sums_of_chunks : (Name → Bool) → ℕ → List (List Op) → List Sum
sums_of_chunks here number [] = []
sums_of_chunks here number (os ∷ rest) = sum (ops_in here (placed number os)) ∷ sums_of_chunks here (number + 1) rest

-- Each chunk of a division is summed up by itself, shard by shard, and tells which names it uses first. However the sums of a shard are then
-- joined, and however many shards there are, the shards under labels, put together, are what node map generation gives.
abbrev pub FoldsOfDivisions : Type 0
FoldsOfDivisions =
    (shards : ℕ) → 0 < shards → (chunks : List Chunk) (items : List Tree) → IsDivision chunks items
    → let parts = ops_by_chunk 0 chunks in
    (way : ℕ → Bracketing) → ((k : ℕ) → row_of (way k) ≡ sums_of_chunks (in_shard shards k) 0 parts)
    → let names = names_of (each labels_by parts) in
    length names ≤ 2 ^ 64
    → with_count (length names) (joined (each (λ k. shard_renamed names (joined_in (way k))) (range_with_len 0 shards))) ≡ generate items
