-- The laws of divisions.
use Rattle.std.specs.Prelude.{ℕ, zero, suc, ◌*◌, ◌^◌, ◌≡◌, ◌≤◌, ◌<◌, List, length, true, false}
use Rattle.std.specs.List.{AllByRecursion}
use Rattle.ld_model.specs.Tree.{Tree, is_empty}
use Rattle.node_model.specs.Generating.{walked, generate}
use Rattle.op_model.specs.Noting.{Chunk, spine, range, is_placed, ops_of_chunks}
use Rattle.op_model.specs.Running.{run, before}
use Rattle.op_laws.specs.Exchanged.{Divides}
use Rattle.sum_model.specs.Sums.{placed_chunks}
use Rattle.shard_model.specs.Joined.{joined, with_count}
use Rattle.shard_laws.specs.Laws.{labels_by, shards_of, ops_by_chunk}
use Rattle.division_model.specs.Dividing.{IsDivision}
use Rattle.division_model.specs.ByWeight.{capped, chunks_at, most_chunks, cut_expanded}

-- The chunks that a plan gives have the operations of the whole document, but for the names of nodes that have no id, and different nodes have
-- different names.
abbrev pub DivisionsDivide : Type 0
DivisionsDivide = (chunks : List Chunk) (items : List Tree) → IsDivision chunks items → Divides chunks items

-- Some plan gives the chunks that a document is cut into by weight.
abbrev pub CutsAreDivisions : Type 0
CutsAreDivisions = (items : List Tree) (weight : ℕ) → IsDivision (cut_expanded items weight) items

-- So their operations are those of the whole document in this sense too.
abbrev pub CutsDivide : Type 0
CutsDivide = (items : List Tree) (weight : ℕ) → Divides (cut_expanded items weight) items

-- The operations of a division, run one after another, come to the state of generation after the whole document.
abbrev pub DivisionsAreGeneration : Type 0
DivisionsAreGeneration =
    (chunks : List Chunk) (items : List Tree) → IsDivision chunks items
    → (run (ops_of_chunks 0 chunks) before).state ≡ walked items

-- The shards of a division, put together, are what node map generation gives, with as many labels as there are names among it.
abbrev pub ShardsOfDivisions : Type 0
ShardsOfDivisions =
    (shards : ℕ) → 0 < shards → (chunks : List Chunk) (items : List Tree) → IsDivision chunks items
    → let names = labels_by (ops_of_chunks 0 chunks) in
    length names ≤ 2 ^ 64
    → with_count (length names) (joined (shards_of names shards (placed_chunks 0 (ops_by_chunk 0 chunks)))) ≡ generate items

-- A chunk isn't empty, and a range has a subject exactly where it has a property.
abbrev pub HasForm : Chunk → Type 0
HasForm (spine os) = (is_placed (spine os) ≡ true) × (is_empty os ≡ false)
HasForm (range items graph subject property reversed) =
    (is_placed (range items graph subject property reversed) ≡ true) × (is_empty items ≡ false)

abbrev pub DivisionsHaveForm : Type 0
DivisionsHaveForm = (chunks : List Chunk) (items : List Tree) → IsDivision chunks items → AllByRecursion HasForm chunks

-- There are few, for a weight from 1 on: the highest limit is reached before the doublings end.
abbrev pub CutsAreFew : Type 0
CutsAreFew = (items : List Tree) (weight : ℕ) → 1 ≤ weight → length (cut_expanded items weight) ≤ most_chunks

-- The limit after so many doublings of a weight.
abbrev pub doubled : ℕ → ℕ → ℕ
doubled weight zero = capped weight
doubled weight (suc times) = capped (2 * doubled weight times)

-- Chunks are those at the first limit, of a weight and its doublings, at which there are few.
pub record AreTheFirstFew (chunks : List Chunk) (items : List Tree) (weight : ℕ) : Type 0 where
  pub times : ℕ
  pub same : chunks ≡ chunks_at (doubled weight times) items
  pub few : length chunks ≤ most_chunks
  pub many_before : (k : ℕ) → k < times → most_chunks < length (chunks_at (doubled weight k) items)

-- A document is cut by weight at the first limit at which it has few chunks.
abbrev pub CutsAreTheFirstFew : Type 0
CutsAreTheFirstFew = (items : List Tree) (weight : ℕ) → 1 ≤ weight → AreTheFirstFew (cut_expanded items weight) items weight
