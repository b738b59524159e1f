-- The laws of shards.
use Rattle.std.specs.Prelude.{ℕ, ◌+◌, ◌^◌, ◌≡◌, ◌≤◌, ◌<◌, List, [], ◌∷◌, length, Bool, Some, None, option_map, if◌then◌else◌, flat_map, map as each}
use Rattle.std.specs.List.{list_any, AllByRecursion, range_with_len}
use Rattle.ld_model.specs.Tree.{Tree}
use Rattle.node_model.specs.Generating.{generate}
use Rattle.op_model.specs.Names.{Name, same_name}
use Rattle.op_model.specs.Ops.{Op}
use Rattle.op_model.specs.Noting.{Chunk, top_range, ops_of, ops_of_chunks}
use Rattle.op_model.specs.Running.{place_of, used, uses_of_all, run, before}
use Rattle.op_laws.specs.Exchanged.{Divides}
use Rattle.op_laws.specs.Sound.{IsSound}
use Rattle.sum_model.specs.Sums.{Placed, placed_chunks, sum}
use Rattle.sum_model.specs.Shards.{in_shard, ops_in}
use Rattle.shard_model.specs.Numbered.{names_of, number_of}
use Rattle.shard_model.specs.Renamed.{Shard, shard_renamed}
use Rattle.shard_model.specs.Joined.{graphs_joined, conflict_joined, joined, with_count, HaveNoNodeTwice}
use Rattle.shard_model.specs.Own.{SumHasOwn}

-- A name that has a label has the number in it, and no other name has a number.
abbrev pub NumbersAreThoseInLabels : Type 0
NumbersAreThoseInLabels = (n : Name) (names : List Name) → number_of n names ≡ (if list_any (same_name n) names then Some (place_of n names) else None)

-- The operations alone, and the names that they give labels to.
abbrev pub ops : List Placed → List Op
ops os = each (λ o. o.1) os

abbrev pub labels_by : List Op → List Name
labels_by os = used [] (uses_of_all os)

-- To number labels it is enough to know of each part which names it uses, each once, in the order in which it uses them first.
abbrev pub NamesAreThoseOfParts : Type 0
NamesAreThoseOfParts = (parts : List (List Op)) → names_of (each labels_by parts) ≡ labels_by (flat_map (λ os. os) parts)

-- The sums of all shards, of so many, each renamed.
abbrev pub shards_of : List Name → ℕ → List Placed → List Shard
shards_of names shards os = each (λ k. shard_renamed names (sum (ops_in (in_shard shards k) os))) (range_with_len 0 shards)

-- In the sum of sound operations, of all or of those among some names, names and entries are told apart.
abbrev pub SumsHaveOwn : Type 0
SumsHaveOwn = (os : List Placed) (here : Name → Bool) → AllByRecursion IsSound (ops os) → SumHasOwn (labels_by (ops os)) (sum (ops_in here os))

-- No node of a graph is there in two shards.
abbrev pub NoNodeIsThereTwice : Type 0
NoNodeIsThereTwice =
    (shards : ℕ) (os : List Placed) → AllByRecursion IsSound (ops os) → length (labels_by (ops os)) ≤ 2 ^ 64
    → HaveNoNodeTwice (shards_of (labels_by (ops os)) shards os)

-- The shards of the operations of chunks, put together, have the graphs of the node map that these operations make one after another, and
-- the same first conflict.
abbrev pub ShardsAreTheNodeMap : Type 0
ShardsAreTheNodeMap =
    (shards : ℕ) → 0 < shards → (chunks : List (List Op)) → let os = flat_map (λ os. os) chunks in
    AllByRecursion IsSound os → length (labels_by os) ≤ 2 ^ 64
    → let all = shards_of (labels_by os) shards (placed_chunks 0 chunks) in
    (graphs_joined all ≡ (run os before).state.graphs) × (option_map (λ c. c.conflict) (conflict_joined all) ≡ (run os before).state.conflict)

-- The operations of each chunk, numbered from this number on.
abbrev pub ops_by_chunk : ℕ → List Chunk → List (List Op)
ops_by_chunk number [] = []
ops_by_chunk number (c ∷ cs) = ops_of number c ∷ ops_by_chunk (number + 1) cs

-- The operations of a divided document are sound, and they are those of its chunks at their places.
abbrev pub DivisionsAreSound : Type 0
DivisionsAreSound =
    (chunks : List Chunk) (items : List Tree) → Divides chunks items
    → AllByRecursion IsSound (ops_of_chunks 0 chunks) × (ops (placed_chunks 0 (ops_by_chunk 0 chunks)) ≡ ops_of_chunks 0 chunks)

-- The shards of a divided document, put together, are what node map generation gives, as many labels as there are names among it.
abbrev pub ShardsAreGeneration : Type 0
ShardsAreGeneration =
    (shards : ℕ) → 0 < shards → (chunks : List Chunk) (items : List Tree) → Divides chunks items
    → let names = labels_by (ops_of_chunks 0 chunks) in
    length names ≤ 2 ^ 64 → with_count (length names) (joined (shards_of names shards (placed_chunks 0 (ops_by_chunk 0 chunks)))) ≡ generate items

-- So it is where the document's own array is divided into ranges.
abbrev pub RangesAreGeneration : Type 0
RangesAreGeneration =
    (shards : ℕ) → 0 < shards → (parts : List (List Tree)) → let chunks = each top_range parts in
    let names = labels_by (ops_of_chunks 0 chunks) in
    length names ≤ 2 ^ 64 → with_count (length names) (joined (shards_of names shards (placed_chunks 0 (ops_by_chunk 0 chunks)))) ≡ generate (flat_map (λ items. items) parts)

-- The operations of ranges of the document's own array are sound.
abbrev pub RangesAreSound : Type 0
RangesAreSound =
    (parts : List (List Tree)) → AllByRecursion IsSound (ops_of_chunks 0 (each top_range parts))
    × (ops (placed_chunks 0 (ops_by_chunk 0 (each top_range parts))) ≡ ops_of_chunks 0 (each top_range parts))
