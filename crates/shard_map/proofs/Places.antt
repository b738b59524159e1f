-- Where a piece has its place among runs that ascend.
use Rattle.std.proofs.Common.{◌≡◌, ℕ, zero, suc, ◌+◌, ◌<◌, ◌≤◌, ◌⊎◌, Bool, true, false, List, [], ◌∷◌, ◌++◌, length, get_or, take, drop, refl, ap, ◌∙◌, subst, inl, inr, ⊎_elim, le_trans, arith}
use Rattle.std.specs.Prelude.{Contains, ◌&&◌, ◌||◌, nat_lt, nat_le, insert}
use Rattle.std.proofs.lemmas.Bool.{and_from, and_left, and_right, leb-true, lt-ltb, le-ltb, le-leb, lt-leb}
use Rattle.std.proofs.lemmas.List.{take-append-drop}
use Rattle.std.proofs.lemmas.List.Elements.{Contains-append_left, Contains-append_right, Contains-append_cases}
use Rattle.shard_map.proofs.Spans.{Contains-first, Contains-cons}
use Rattle.std.specs.List.Sorted.{IsPartitionedBy}
use Rattle.shard_map.specs.Views.{covers, Rises, spans}

module _ {P : Type 0} (start_of end_of : P → ℕ) where
  abbrev Up : ℕ → List P → Type 0
  Up a xs = Rises a (spans start_of end_of xs)

  -- the first i runs end at the piece or before it
  abbrev pub Before : List P → ℕ → ℕ → Type 0
  Before xs i p = (k : ℕ) (d : P) → k < i → end_of (get_or xs k d) ≤ p

  -- the run there, if there is one, begins after the piece
  abbrev pub After : List P → ℕ → ℕ → Type 0
  After xs i p = (d : P) → i < length xs → p < start_of (get_or xs i d)

  outside : (x : P) (p : ℕ) → (end_of x ≤ p) ⊎ (p < start_of x) → (nat_le (start_of x) p && nat_lt p (end_of x)) ≡ false
  outside x p (inl e) = and_right (nat_le (start_of x) p) (nat_lt p (end_of x)) (le-ltb p (end_of x) e)
  outside x p (inr l) = and_left (nat_le (start_of x) p) (nat_lt p (end_of x)) (lt-leb (start_of x) p l)

  not_covered : (x : P) (xs : List P) (p : ℕ) → (end_of x ≤ p) ⊎ (p < start_of x) → covers (spans start_of end_of xs) p ≡ false → covers (spans start_of end_of (x ∷ xs)) p ≡ false
  not_covered x xs p out none = ap (λ b. b || covers (spans start_of end_of xs) p) (outside x p out) ∙ none

  beyond : (xs : List P) (a p : ℕ) → Up a xs → p < a → covers (spans start_of end_of xs) p ≡ false
  beyond [] a p up l = refl
  beyond (x ∷ xs) a p up l = let le = up.0 in let lt = up.1 in not_covered x xs p (inr (omega arith)) (beyond xs (end_of x) p up.2 (omega arith))

  pub free-there : (xs : List P) (a i p : ℕ) → Up a xs → Before xs i p → After xs i p → covers (spans start_of end_of xs) p ≡ false
  free-there [] a i p up before after = refl
  free-there (x ∷ xs) a zero p up before after = let l = after x (omega arith) in let lt = up.1 in not_covered x xs p (inr l) (beyond xs (end_of x) p up.2 (omega arith))
  free-there (x ∷ xs) a (suc i) p up before after = not_covered x xs p (inl (before zero x (omega arith))) (free-there xs (end_of x) i p up.2 (λ k d l. before (suc k) d (omega arith)) (λ d l. after d (omega arith)))

  pub rises-insert : (xs : List P) (a i p : ℕ) (y : P) → Up a xs → a ≤ p → Before xs i p → After xs i p → start_of y ≡ p → end_of y ≡ p + 1 → Up a (insert xs i y)
  rises-insert [] a zero p y up le before after s e = ((omega arith), (omega arith), tt)
  rises-insert [] a (suc i) p y up le before after s e = ((omega arith), (omega arith), tt)
  rises-insert (x ∷ xs) a zero p y up le before after s e = let l = after x (omega arith) in ((omega arith), (omega arith), ((omega arith), up.1, up.2))
  rises-insert (x ∷ xs) a (suc i) p y up le before after s e = (up.0, up.1, rises-insert xs (end_of x) i p y up.2 (before zero x (omega arith)) (λ k d l. before (suc k) d (omega arith)) (λ d l. after d (omega arith)) s e)

  pub covers-there : (xs : List P) (i p : ℕ) (d : P) → i < length xs → start_of (get_or xs i d) ≤ p → p < end_of (get_or xs i d) → covers (spans start_of end_of xs) p ≡ true
  covers-there [] i p d l s e = absurd (omega arith)
  covers-there (x ∷ xs) zero p d l s e = ap (λ b. b || covers (spans start_of end_of xs) p) (and_from (nat_le (start_of x) p) (nat_lt p (end_of x)) (le-leb (start_of x) p s) (lt-ltb p (end_of x) e))
  covers-there (x ∷ xs) (suc i) p d l s e = or_right (nat_le (start_of x) p && nat_lt p (end_of x)) (covers (spans start_of end_of xs) p) (covers-there xs i p d (omega arith) s e)
    where
      or_right : (a b : Bool) → b ≡ true → (a || b) ≡ true
      or_right true b e = refl
      or_right false b e = e

  ends_rise : (xs : List P) (a i j : ℕ) (d : P) → Up a xs → i ≤ j → j < length xs → (a < end_of (get_or xs j d)) × (end_of (get_or xs i d) ≤ end_of (get_or xs j d))
  ends_rise [] a i j d up le lt = absurd (omega arith)
  ends_rise (x ∷ xs) a zero zero d up le lt = let m = up.0 in let n = up.1 in ((omega arith), (omega arith))
  ends_rise (x ∷ xs) a zero (suc j) d up le lt = let h = ends_rise xs (end_of x) j j d up.2 (omega arith) (omega arith) in let l = h.0 in let m = up.0 in let n = up.1 in ((omega arith), (omega arith))
  ends_rise (x ∷ xs) a (suc i) zero d up le lt = absurd (omega arith)
  ends_rise (x ∷ xs) a (suc i) (suc j) d up le lt = let h = ends_rise xs (end_of x) i j d up.2 (omega arith) (omega arith) in let l = h.0 in let m = up.0 in let n = up.1 in ((omega arith), h.1)

  -- what `partition_point` asks
  pub parted : (xs : List P) (p : ℕ) → Up 0 xs → IsPartitionedBy (λ x. nat_le (end_of x) p) xs
  parted xs p up i j d le lt e = let h = (ends_rise xs 0 i j d up le lt).1 in le-leb (end_of (get_or xs i d)) p (le_trans h (leb-true (end_of (get_or xs j d)) p e))

  pub spans-insert : (xs : List P) (i : ℕ) (y : P) → spans start_of end_of (insert xs i y) ≡ insert (spans start_of end_of xs) i (start_of y, end_of y)
  spans-insert [] zero y = refl
  spans-insert [] (suc i) y = refl
  spans-insert (x ∷ xs) zero y = refl
  spans-insert (x ∷ xs) (suc i) y = ap (λ l. (start_of x, end_of x) ∷ l) (spans-insert xs i y)

pub Contains-insert : {X : Type 0} (xs : List X) (i : ℕ) (y : X) → Contains (insert xs i y) y
Contains-insert xs i y = Contains-append_right (take i xs) (y ∷ drop i xs) y (Contains-first y (drop i xs))

-- what an insertion has is the new one, or was there
pub Contains-insert_cases : {X : Type 0} (xs : List X) (i : ℕ) (y z : X) → Contains (insert xs i y) z → (y ≡ z) ⊎ Contains xs z
Contains-insert_cases xs i y z c = ⊎_elim
    (λ (t : Contains (take i xs) z). inr (back (Contains-append_left (take i xs) (drop i xs) z t)))
    (λ (t : Contains (y ∷ drop i xs) z). ⊎_elim inl (λ u. inr (back (Contains-append_right (take i xs) (drop i xs) z u))) (Contains-cons y (drop i xs) z t))
    (Contains-append_cases (take i xs) (y ∷ drop i xs) z c)
  where
    back : Contains (take i xs ++ drop i xs) z → Contains xs z
    back t = subst (λ l. Contains l z) (take-append-drop i xs) t
