-- One row of several that is written: what is then seen of all of them.
use Rattle.std.proofs.Common.{◌≡◌, ℕ, ◌<◌, Bool, true, List, [], length, All, map, get_or, set, Vec, Global, sym, ap, ◌∙◌, subst}
use Rattle.std.proofs.lemmas.List.{get_or-map, map-set}
use Rattle.std.proofs.lemmas.List.Elements.{All-get_or, All-set}
use Rattle.std.proofs.Math.ListN.{length-set, length-map}
use Rattle.std.specs.Vec.{with_item}

abbrev pub rows_of : List (Vec Bool Global) → List (List Bool)
rows_of rows = map (λ row. row.items) rows

module _ (rows : List (Vec Bool Global)) (at : ℕ) (row : Vec Bool Global) (is : row ≡ get_or rows at row) (low : at < length rows) where
  pub row_seen : row.items ≡ get_or (rows_of rows) at []
  row_seen = ap (λ (r : Vec Bool Global). r.items) is ∙ sym (get_or-map (λ r. r.items) rows at row [] low)

  pub row_length : (n : ℕ) → All (λ r. length r ≡ n) (rows_of rows) → length row.items ≡ n
  row_length n each =
      ap length row_seen ∙ All-get_or (λ r. length r ≡ n) (rows_of rows) at [] (subst (λ (k : ℕ). at < k) (sym (length-map rows (λ (r : Vec Bool Global). r.items))) low) each

  pub written_seen : (piece : ℕ) → rows_of (set rows at (with_item row piece true)) ≡ set (rows_of rows) at (set (get_or (rows_of rows) at []) piece true)
  written_seen piece =
      map-set (λ r. r.items) rows at (with_item row piece true)
      ∙ ap (λ (r : List Bool). set (rows_of rows) at (set r piece true)) row_seen

  pub written_lengths : (n piece : ℕ) → All (λ r. length r ≡ n) (rows_of rows) → All (λ r. length r ≡ n) (rows_of (set rows at (with_item row piece true)))
  written_lengths n piece each =
      subst (λ (rs : List (List Bool)). All (λ r. length r ≡ n) rs) (sym (map-set (λ r. r.items) rows at (with_item row piece true)))
      (All-set (λ r. length r ≡ n) (rows_of rows) at (set row.items piece true) (length-set row.items piece true ∙ row_length n each) each)
