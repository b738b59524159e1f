-- The operations of chunks are sound, and their labels are those that they use.
use Rattle.std.proofs.Common.{◌≡◌, ◌+◌, ℕ, List, [], ◌∷◌, ◌++◌, refl, sym, ap, ap₂, ◌∙◌, subst, drop, append-nil}
use Rattle.std.specs.Prelude.{flat_map, map as each}
use Rattle.std.specs.List.{AllByRecursion}
use Rattle.std.proofs.lemmas.List.{map-append}
use Rattle.std.proofs.lemmas.List.Concat.{flat_map-append}
use Rattle.op_model.specs.Names.{Name}
use Rattle.op_model.specs.Ops.{Op}
use Rattle.op_laws.specs.Sound.{IsSound}
use Rattle.sum_model.specs.Sums.{Placed, placed_from, placed, placed_chunks, sum}
use Rattle.sum_model.specs.Shards.{in_shard, ops_in}
use Rattle.shard_model.specs.Own.{SumHasOwn}
use Rattle.shard_model.specs.Numbered.{names_of}
use Rattle.shard_laws.proofs.Chunks.{names_are_those_of_parts}
use Rattle.shard_laws.specs.Laws.{ops, labels_by}
use Rattle.shard_laws.proofs.Owned.{sums_have_own}
use Rattle.part_cases.specs.declared.division.Division.{Division}
use Rattle.part_cases.specs.Chunks.{run_of, AreSound, IsNumbered}

ops_placed : (chunk number : ℕ) (os : List Op) → ops (placed_from chunk number os) ≡ os
ops_placed chunk number [] = refl
ops_placed chunk number (o ∷ os) = ap (λ l. o ∷ l) (ops_placed chunk (number + 1) os)

ops_of_all : (chunk : ℕ) (chunks : List (List Op)) → ops (placed_chunks chunk chunks) ≡ flat_map (λ os. os) chunks
ops_of_all chunk [] = refl
ops_of_all chunk (os ∷ chunks) =
    map-append (λ (o : Placed). o.1) (placed chunk os) (placed_chunks (chunk + 1) chunks)
    ∙ ap₂ ◌++◌ (ops_placed chunk 0 os) (ops_of_all (chunk + 1) chunks)

-- The run of all chunks in a shard has its own labels.
pub all_own : (d : Division) (shards number : ℕ) → IsNumbered d → SumHasOwn d.labels (run_of shards number 0 d.chunks.items).sum
all_own d shards number is =
    let chunks = d.chunks.items in
    let os = placed_chunks 0 chunks in
    subst (λ (names : List Name). SumHasOwn names (sum (ops_in (in_shard shards number) os))) (ap labels_by (ops_of_all 0 chunks) ∙ sym is.1)
    (sums_have_own os (in_shard shards number) (subst (AllByRecursion IsSound) (sym (ops_of_all 0 chunks)) is.0))

all_behind : (a b : List Op) → AllByRecursion IsSound a → AllByRecursion IsSound b → AllByRecursion IsSound (a ++ b)
all_behind [] b first second = second
all_behind (o ∷ a) b first second = (first.0, all_behind a b first.1 second)

-- One more chunk.
pub one_more : (chunks : List (List Op)) (os : List Op) → AreSound chunks → AllByRecursion IsSound os → AreSound (chunks ++ os ∷ [])
one_more chunks os are is =
    subst (AllByRecursion IsSound) (sym (flat_map-append (λ os. os) chunks (os ∷ [])))
    (all_behind (flat_map (λ os. os) chunks) (os ++ []) are (all_behind os [] is tt))

-- Once each chunk has told its uses, these number the labels.
pub all_told : (chunks : List (List Op)) (told : List (List Name)) (index : ℕ) → drop index chunks ≡ [] → told ++ each labels_by (drop index chunks) ≡ each labels_by chunks → names_of told ≡ labels_by (flat_map (λ os. os) chunks)
all_told chunks told index end is =
    ap names_of (sym (append-nil told) ∙ ap (λ (l : List (List Op)). told ++ each labels_by l) (sym end) ∙ is)
    ∙ names_are_those_of_parts chunks
