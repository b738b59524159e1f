-- The parts of a piece, one after the other.
use Rattle.std.proofs.Common.{◌≡◌, ℕ, suc, ◌+◌, ◌<◌, ◌≤◌, ◌⊎◌, List, [], ◌∷◌, ◌++◌, length, sym, ap, subst, inl, inr, ⊎_elim, slice_get, Some, All, arith}
use Rattle.std.specs.Prelude.{Contains}
use Rattle.std.proofs.lemmas.Bool.{cases_eq}
use Rattle.std.proofs.lemmas.List.{length-append}
use Rattle.std.proofs.lemmas.List.Elements.{Contains-append_left, Contains-push, All-push}
use Rattle.shard_map.specs.Seats.{Seen}
use Rattle.phase_enter.specs.Entries.{Has, Grows, IsKept, IsCovered, TookCareOf}
use Rattle.phase_enter.proofs.Elements.{head_of, later_of}

module _ {J P : Type 0} (part : ℕ → ℕ → P) (piece : ℕ) where
  -- after one more part
  pub fine_next : (shards : ℕ) (s : Seen J) (n : ℕ) (x : P) (kept kept' : List (ℕ × P)) → n < shards → x ≡ part n piece → TookCareOf s n piece x kept kept' → All (IsKept shards part piece) kept → All (IsKept shards part piece) kept'
  fine_next shards s n x kept kept' low is care all = ⊎_elim
      (λ (t : Has s n piece × (kept' ≡ kept)). subst (λ (l : List (ℕ × P)). All (IsKept shards part piece) l) (sym t.1) all)
      (λ (t : kept' ≡ kept ++ (n, x) ∷ []). subst (λ (l : List (ℕ × P)). All (IsKept shards part piece) l) (sym t) (All-push (IsKept shards part piece) kept (n, x) all (low, is)))
      care

  pub covered_next : (s t : Seen J) (n : ℕ) (x : P) (kept kept' : List (ℕ × P)) → Grows s t → TookCareOf t n piece x kept kept' → IsCovered n s piece kept → IsCovered (n + 1) t piece kept'
  covered_next s t n x kept kept' grows care so_far shard low = ⊎_elim
      (λ (e : shard ≡ n). subst (λ (i : ℕ). Has t i piece ⊎ ((y : P) × Contains kept' (i, y))) (sym e) here)
      (λ (e : shard ≡ n → ⊥). ⊎_elim (λ (h : Has s shard piece). inl (grows.pairs shard piece h)) (λ (h : (y : P) × Contains kept (shard, y)). inr (h.0, still shard h.0 h.1)) (so_far shard (let apart = e in omega arith)))
      (cases_eq shard n)
    where
      here : Has t n piece ⊎ ((y : P) × Contains kept' (n, y))
      here = ⊎_elim
          (λ (h : Has t n piece × (kept' ≡ kept)). inl h.0)
          (λ (h : kept' ≡ kept ++ (n, x) ∷ []). inr (x, subst (λ (l : List (ℕ × P)). Contains l (n, x)) (sym h) (Contains-push kept (n, x))))
          care

      still : (i : ℕ) (y : P) → Contains kept (i, y) → Contains kept' (i, y)
      still i y c = ⊎_elim
          (λ (h : Has t n piece × (kept' ≡ kept)). subst (λ (l : List (ℕ × P)). Contains l (i, y)) (sym h.1) c)
          (λ (h : kept' ≡ kept ++ (n, x) ∷ []). subst (λ (l : List (ℕ × P)). Contains l (i, y)) (sym h) (Contains-append_left kept ((n, x) ∷ []) (i, y) c))
          care

  -- the list of those that are kept grows by one at most
  pub kept_long : (s : Seen J) (n : ℕ) (x : P) (kept kept' : List (ℕ × P)) → TookCareOf s n piece x kept kept' → length kept' ≤ length kept + 1
  kept_long s n x kept kept' care = ⊎_elim
      (λ (t : Has s n piece × (kept' ≡ kept)). let l = ap length t.1 in omega arith)
      (λ (t : kept' ≡ kept ++ (n, x) ∷ []). let l = ap length t in let a = length-append kept ((n, x) ∷ []) in omega arith)
      care

-- the parts that are left
pub head_part : {P : Type 0} (part : ℕ → ℕ → P) (piece n : ℕ) (left rest : List P) (x : P) → left ≡ x ∷ rest → ((k : ℕ) (y : P) → slice_get left k ≡ Some y → y ≡ part (n + k) piece) → x ≡ part n piece
head_part part piece n left rest x is each = subst (λ (m : ℕ). x ≡ part m piece) (omega arith) (each 0 x (head_of left rest x is))

pub other_parts : {P : Type 0} (part : ℕ → ℕ → P) (piece n : ℕ) (left rest : List P) (x : P) → left ≡ x ∷ rest → ((k : ℕ) (y : P) → slice_get left k ≡ Some y → y ≡ part (n + k) piece) → (k : ℕ) (y : P) → slice_get rest k ≡ Some y → y ≡ part (n + 1 + k) piece
other_parts part piece n left rest x is each k y got = subst (λ (m : ℕ). y ≡ part m piece) (omega arith) (each (suc k) y (later_of left rest x y k is got))

-- what is covered stays so
pub covered_grows : {J P : Type 0} (n : ℕ) (s t : Seen J) (piece : ℕ) (kept : List (ℕ × P)) → Grows s t → IsCovered n s piece kept → IsCovered n t piece kept
covered_grows n s t piece kept grows c shard low = ⊎_elim (λ (h : Has s shard piece). inl (grows.pairs shard piece h)) (λ (h : (x : _) × Contains kept (shard, x)). inr h) (c shard low)
