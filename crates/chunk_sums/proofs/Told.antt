-- Operations with one more at their end say what they said, and then what that one says.
use Rattle.std.proofs.Common.{◌≡◌, ℕ, ◌+◌, List, [], ◌∷◌, ◌++◌, length, Bool, true, false, cond, refl, sym, ap, ◌∙◌, arith}
use Rattle.std.proofs.lemmas.List.{append-nil, append_assoc, length-append}
use Rattle.std.proofs.lemmas.List.Elements.{filter-append}
use Rattle.op_model.specs.Ops.{Op}
use Rattle.op_model.specs.Noting.{Notes, note, no_notes}
use Rattle.op_model.specs.Running.{used, uses, uses_of_all}
use Rattle.sum_model.specs.Shards.{in_shard, falls_in, ops_in}
use Rattle.sum_model.specs.Sums.{Place, empty_sum, join, placed_from, placed, sum, sum_of_one}
use Rattle.sum_laws.proofs.Sums.{join_is_a_monoid, the_sum_of_both_is_the_join}
use Rattle.subtree_summary.specs.OnTheWay.{SoFar, nothing_said, turned_to, tell}
use Rattle.subtree_summary.specs.Summing.{one_in}
use Rattle.subtree_summary.proofs.AllTold.{all_told, shards_told, names_told, said_told}
use Rattle.subtree_summary.proofs.Used.{used-append}
use Rattle.chunk_sums.specs.Summing.{told, on_the_way, then_said, summed}

uses-last : (os : List Op) (o : Op) → uses_of_all (os ++ o ∷ []) ≡ uses_of_all os ++ uses o
uses-last [] o = append-nil (uses o)
uses-last (p ∷ os) o = ap (λ l. uses p ++ l) (uses-last os o) ∙ sym (append_assoc (uses p) (uses_of_all os) (uses o))

-- The last one stands behind as many as there were before it.
placed-last : (chunk n : ℕ) (os : List Op) (o : Op) → placed_from chunk n (os ++ o ∷ []) ≡ placed_from chunk n os ++ (record { chunk = chunk; number = n + length os }, o) ∷ []
placed-last chunk n [] o = ap (λ m. (record { chunk = chunk; number = m }, o) ∷ []) (let same : n ≡ n + 0 = omega arith in same)
placed-last chunk n (p ∷ os) o =
    let same : n + 1 + length os ≡ n + length (p ∷ os) = omega arith in
    ap (λ l. (record { chunk = chunk; number = n }, p) ∷ l)
    (placed-last chunk (n + 1) os o ∙ ap (λ m. placed_from chunk (n + 1) os ++ (record { chunk = chunk; number = m }, o) ∷ []) same)

-- One operation alone.
one_said : (shards k : ℕ) (at : Place) (o : Op) → sum (ops_in (in_shard shards k) ((at, o) ∷ [])) ≡ one_in shards k at o
one_said shards k at o = by_test (falls_in (in_shard shards k) o)
  where
    by_test : (t : Bool) → sum (cond t ((at, o) ∷ []) []) ≡ cond t (sum_of_one at o) empty_sum
    by_test true = join_is_a_monoid.right (sum_of_one at o)
    by_test false = refl

said-last : (chunk shards k : ℕ) (os : List Op) (o : Op)
    → sum (ops_in (in_shard shards k) (placed chunk (os ++ o ∷ []))) ≡ join (sum (ops_in (in_shard shards k) (placed chunk os))) (one_in shards k (record { chunk = chunk; number = length os }) o)
said-last chunk shards k os o =
    let same : 0 + length os ≡ length os = omega arith in
    let here = in_shard shards k in
    let before = ops_in here (placed chunk os) in
    let last = (record { chunk = chunk; number = length os }, o) ∷ [] in
    ap (λ ps. sum (ops_in here ps)) (placed-last chunk 0 os o ∙ ap (λ m. placed chunk os ++ (record { chunk = chunk; number = m }, o) ∷ []) same)
    ∙ ap sum (filter-append (λ p. falls_in here p.1) (placed chunk os) last)
    ∙ the_sum_of_both_is_the_join before (ops_in here last)
    ∙ ap (join (sum before)) (one_said shards k (record { chunk = chunk; number = length os }) o)

pub then_said-last : (chunk : ℕ) (s : SoFar) (os : List Op) (o : Op) → then_said chunk s (os ++ o ∷ []) ≡ tell o (then_said chunk s os)
then_said-last chunk s os o i = record {
  chunk = chunk;
  count = length-append os (o ∷ []) i;
  shards = s.shards;
  said = λ k.
      (ap (join (s.said k)) (said-last chunk s.shards k os o)
      ∙ sym (join_is_a_monoid.assoc (s.said k) (sum (ops_in (in_shard s.shards k) (placed chunk os))) (one_in s.shards k (record { chunk = chunk; number = length os }) o))) i;
  names = (ap (used s.names) (uses-last os o) ∙ used-append s.names (uses_of_all os) (uses o)) i;
}

pub summed-note : (s : SoFar) (o : Op) (n : Notes) → summed s (note o n) ≡ told o (summed s n)
summed-note s o n i = record { chunk = n.chunk; unnamed = n.unnamed; so_far = then_said-last n.chunk s n.ops o i }

-- Before the first operation of a chunk.
pub nothing_yet : (chunk : ℕ) (s : SoFar) → on_the_way chunk s ≡ summed s (no_notes chunk)
nothing_yet chunk s i = record {
  chunk = chunk;
  unnamed = 0;
  so_far = record { chunk = chunk; count = 0; shards = s.shards; said = λ k. sym (join_is_a_monoid.right (s.said k)) i; names = s.names };
}

-- Where nothing was said before.
pub from_nothing : (chunk shards : ℕ) (os : List Op) (k : ℕ) → (then_said chunk (nothing_said chunk shards) os).said k ≡ sum (ops_in (in_shard shards k) (placed chunk os))
from_nothing chunk shards os k = join_is_a_monoid.left (sum (ops_in (in_shard shards k) (placed chunk os)))

chunk_told : (os : List Op) (s : SoFar) → (all_told os s).chunk ≡ s.chunk
chunk_told [] s = refl
chunk_told (o ∷ os) s = chunk_told os (tell o s)

count_told : (os : List Op) (s : SoFar) → (all_told os s).count ≡ s.count + length os
count_told [] s = omega arith
count_told (o ∷ os) s = count_told os (tell o s) ∙ (omega arith)

-- Operations told one after another say what they say together.
pub all_said : (chunk : ℕ) (s : SoFar) (os : List Op) → all_told os (turned_to chunk s) ≡ then_said chunk s os
all_said chunk s os i = record {
  chunk = chunk_told os (turned_to chunk s) i;
  count = (count_told os (turned_to chunk s) ∙ (let same : 0 + length os ≡ length os = omega arith in same)) i;
  shards = shards_told os (turned_to chunk s) i;
  said = λ k. said_told os (turned_to chunk s) k i;
  names = names_told os (turned_to chunk s) i;
}
