-- The runs of rows of chunks.
use Rattle.std.proofs.Common.{◌≡◌, ◌+◌, ℕ, List, [], ◌∷◌, ◌++◌, length, ◌<◌, Option, slice_index_or, refl, sym, ap, ◌∙◌, subst, arith, append-nil, append_assoc, length-append}
use Rattle.std.specs.Prelude.{slice_get, IfSome}
use Rattle.std.proofs.lemmas.List.Elements.{filter-append}
use Rattle.std.proofs.lemmas.Option.{slice_get_read}
use Rattle.op_model.specs.Ops.{Op}
use Rattle.sum_model.specs.Sums.{Placed, Sum, placed, placed_chunks, sum, join}
use Rattle.sum_model.specs.Shards.{in_shard, falls_in, ops_in}
use Rattle.sum_laws.proofs.Sums.{the_sum_of_both_is_the_join}
use Rattle.subtree_summary.specs.declared.part.Part.{Part}
use Rattle.subtree_summary.specs.Parts.{part_view}
use Rattle.summary_merge.specs.Runs.{runs_joined, all_from, all_joined, Begins, AreNeighbours}
use Rattle.part_cases.specs.Chunks.{run_of, lone_runs}

-- The operations of chunks, and of those behind them.
placed-append : (first : ℕ) (a b : List (List Op)) → placed_chunks first (a ++ b) ≡ placed_chunks first a ++ placed_chunks (first + length a) b
placed-append first [] b = let same : first ≡ first + 0 = omega arith in ap (λ n. placed_chunks n b) same
placed-append first (os ∷ a) b =
    let same : (first + 1) + length a ≡ first + length (os ∷ a) = omega arith in
    ap (λ l. placed first os ++ l) (placed-append (first + 1) a b ∙ ap (λ n. placed_chunks (first + 1) a ++ placed_chunks n b) same)
    ∙ sym (append_assoc (placed first os) (placed_chunks (first + 1) a) (placed_chunks (first + length (os ∷ a)) b))

module _ (shards number : ℕ) where
  abbrev sum_in : List Placed → Sum
  sum_in os = sum (ops_in (in_shard shards number) os)

  sum-append : (a b : List Placed) → sum_in (a ++ b) ≡ join (sum_in a) (sum_in b)
  sum-append a b =
      ap sum (filter-append (λ o. falls_in (in_shard shards number) o.1) a b)
      ∙ the_sum_of_both_is_the_join (ops_in (in_shard shards number) a) (ops_in (in_shard shards number) b)

  pub runs-append : (first : ℕ) (a b : List (List Op)) → runs_joined (run_of shards number first a) (run_of shards number (first + length a) b) ≡ run_of shards number first (a ++ b)
  runs-append first a b =
      let same : (first + length a) + length b ≡ first + length (a ++ b) = omega (arith, length-append a b) in
      let sums : join (sum_in (placed_chunks first a)) (sum_in (placed_chunks (first + length a) b)) ≡ sum_in (placed_chunks first (a ++ b)) =
      sym (sum-append (placed_chunks first a) (placed_chunks (first + length a) b)) ∙ ap sum_in (sym (placed-append first a b)) in
      λ i. record { first = first; end = same i; sum = sums i }

  -- The runs of the chunks, each by itself, make the run of all.
  all_from_lone : (first : ℕ) (os : List Op) (rest : List (List Op)) → all_from (run_of shards number first (os ∷ [])) (lone_runs shards number (first + 1) rest) ≡ run_of shards number first (os ∷ rest)
  all_from_lone first os [] = refl
  all_from_lone first os (next ∷ rest) =
      ap (runs_joined (run_of shards number first (os ∷ []))) (all_from_lone (first + 1) next rest)
      ∙ runs-append first (os ∷ []) (next ∷ rest)

  pub all_lone : (chunks : List (List Op)) → all_joined (lone_runs shards number 0 chunks) ≡ run_of shards number 0 chunks
  all_lone [] = refl
  all_lone (os ∷ rest) = all_from_lone 0 os rest

  begins : (first : ℕ) (chunks : List (List Op)) → Begins first (lone_runs shards number first chunks)
  begins first [] = tt
  begins first (os ∷ rest) = refl

  pub are_neighbours : (first : ℕ) (chunks : List (List Op)) → AreNeighbours (lone_runs shards number first chunks)
  are_neighbours first [] = tt
  are_neighbours first (os ∷ rest) = (begins (first + 1) rest, are_neighbours (first + 1) rest)

  -- Chunks that are cut in two.
  pub halves : (first at : ℕ) (all a b : List (List Op)) → all ≡ a ++ b → length a ≡ at → runs_joined (run_of shards number first a) (run_of shards number (first + at) b) ≡ run_of shards number first all
  halves first at all a b cut long =
      ap (λ n. runs_joined (run_of shards number first a) (run_of shards number (first + n) b)) (sym long)
      ∙ runs-append first a b
      ∙ ap (run_of shards number first) (sym cut)

  -- The part at a place is the sum of the operations in its shard.
  pub lone_is : (first : ℕ) (os : List Op) (parts : List Part) (one : Part) → number < length parts
      → IfSome (slice_get parts number) (λ p. part_view p ≡ sum_in (placed first os)) → one ≡ slice_index_or parts number one
      → part_view one ≡ sum_in (placed first os ++ [])
  lone_is first os parts one few is same =
      subst (λ (o : Option Part). IfSome o (λ p. part_view p ≡ sum_in (placed first os))) (slice_get_read parts (length parts) number one refl few same) is
      ∙ ap sum_in (sym (append-nil (placed first os)))
