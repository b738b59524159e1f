-- What the chunks of a document say.
use Rattle.std.specs.Prelude.{ℕ, ◌≡◌, ◌+◌, List, [], ◌∷◌, length, flat_map}
use Rattle.std.specs.List.{AllByRecursion}
use Rattle.op_model.specs.Ops.{Op}
use Rattle.op_laws.specs.Sound.{IsSound}
use Rattle.sum_model.specs.Sums.{placed_chunks, sum}
use Rattle.sum_model.specs.Shards.{in_shard, ops_in}
use Rattle.summary_merge.specs.Runs.{RunOf}
use Rattle.shard_laws.specs.Laws.{labels_by}
use Rattle.part_cases.specs.declared.division.Division.{Division}

-- The run of the operations of chunks, numbered from this number on, in a shard, of so many.
abbrev pub run_of : ℕ → ℕ → ℕ → List (List Op) → RunOf
run_of shards number first chunks = record { first = first; end = first + length chunks; sum = sum (ops_in (in_shard shards number) (placed_chunks first chunks)) }

-- The run of each of these chunks.
abbrev pub lone_runs : ℕ → ℕ → ℕ → List (List Op) → List RunOf
lone_runs shards number first [] = []
lone_runs shards number first (os ∷ rest) = run_of shards number first (os ∷ []) ∷ lone_runs shards number (first + 1) rest

-- The operations of all chunks are sound.
abbrev pub AreSound : List (List Op) → Type 0
AreSound chunks = AllByRecursion IsSound (flat_map (λ os. os) chunks)

-- They are, and the labels are those that they use.
abbrev pub IsNumbered : Division → Type 0
IsNumbered d = AreSound d.chunks.items × (d.labels ≡ labels_by (flat_map (λ os. os) d.chunks.items))
