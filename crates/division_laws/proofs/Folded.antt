-- Sums of neighbouring chunks come to one and the same, however they are joined.
use Rattle.std.proofs.Common.{◌≡◌, ℕ, ◌+◌, ◌^◌, ◌≤◌, List, [], ◌∷◌, ◌++◌, length, Bool, refl, sym, ap, ap₂, ◌∙◌, subst}
use Rattle.std.specs.Prelude.{map as each}
use Rattle.std.specs.List.{range_with_len}
use Rattle.std.proofs.lemmas.List.Elements.{filter-append}
use Rattle.node_model.specs.Generating.{generate}
use Rattle.op_model.specs.Names.{Name}
use Rattle.op_model.specs.Ops.{Op}
use Rattle.op_model.specs.Noting.{ops_of_chunks}
use Rattle.sum_model.specs.Sums.{Sum, empty_sum, join, sum, Placed, placed, placed_chunks}
use Rattle.sum_model.specs.Shards.{in_shard, falls_in, ops_in}
use Rattle.sum_laws.proofs.Sums.{join_is_a_monoid, the_sum_of_both_is_the_join}
use Rattle.shard_model.specs.Numbered.{names_of}
use Rattle.shard_model.specs.Renamed.{shard_renamed}
use Rattle.shard_model.specs.Joined.{joined, with_count}
use Rattle.shard_laws.specs.Laws.{labels_by, ops_by_chunk}
use Rattle.shard_laws.proofs.Chunks.{chunk_by_chunk, names_are_those_of_parts}
use Rattle.division_laws.specs.Folded.{Bracketing, no_sum, one_sum, two_sides, row_of, joined_in, sums_of_chunks, FoldsOfDivisions}
use Rattle.division_laws.proofs.Divides.{shards_of_divisions}

-- From the left, one after another.
abbrev row_joined : List Sum → Sum
row_joined [] = empty_sum
row_joined (s ∷ sums) = join s (row_joined sums)

row_joined-append : (sums more : List Sum) → row_joined (sums ++ more) ≡ join (row_joined sums) (row_joined more)
row_joined-append [] more = sym (join_is_a_monoid.left (row_joined more))
row_joined-append (s ∷ sums) more = ap (join s) (row_joined-append sums more) ∙ sym (join_is_a_monoid.assoc s (row_joined sums) (row_joined more))

joined_in-row : (way : Bracketing) → joined_in way ≡ row_joined (row_of way)
joined_in-row no_sum = refl
joined_in-row (one_sum s) = sym (join_is_a_monoid.right s)
joined_in-row (two_sides left right) =
    ap₂ join (joined_in-row left) (joined_in-row right) ∙ sym (row_joined-append (row_of left) (row_of right))

sums_joined : (here : Name → Bool) (number : ℕ) (parts : List (List Op)) → row_joined (sums_of_chunks here number parts) ≡ sum (ops_in here (placed_chunks number parts))
sums_joined here number [] = refl
sums_joined here number (os ∷ rest) =
    let first = ops_in here (placed number os) in
    let later = placed_chunks (number + 1) rest in
    ap (join (sum first)) (sums_joined here (number + 1) rest)
    ∙ sym (the_sum_of_both_is_the_join first (ops_in here later))
    ∙ ap sum (sym (filter-append (λ (o : Placed). falls_in here o.1) (placed number os) later))

pub folds_of_divisions : FoldsOfDivisions
folds_of_divisions shards some chunks items is way rows =
    let parts = ops_by_chunk 0 chunks in
    let names = labels_by (ops_of_chunks 0 chunks) in
    let same : names_of (each labels_by parts) ≡ names = names_are_those_of_parts parts ∙ ap labels_by (chunk_by_chunk 0 chunks) in
    let sums : (k : ℕ) → joined_in (way k) ≡ sum (ops_in (in_shard shards k) (placed_chunks 0 parts)) =
    λ k. joined_in-row (way k) ∙ ap row_joined (rows k) ∙ sums_joined (in_shard shards k) 0 parts in
    subst (λ names. length names ≤ 2 ^ 64 → with_count (length names) (joined (each (λ k. shard_renamed names (joined_in (way k))) (range_with_len 0 shards))) ≡ generate items)
    (sym same)
    (λ few. ap (λ (sum_in : ℕ → Sum). with_count (length names) (joined (each (λ k. shard_renamed names (sum_in k)) (range_with_len 0 shards)))) (λ i k. sums k i)
    ∙ shards_of_divisions shards some chunks items is few)
