-- Elements of a list by their numbers.
use Rattle.std.proofs.Common.{◌≡◌, ℕ, zero, suc, ◌<◌, ◌⊎◌, List, [], ◌∷◌, ◌++◌, length, refl, ap, ◌∙◌, inl, inr, ⊎_elim, slice_get, Some, arith}
use Rattle.std.specs.Prelude.{Contains}

pub some_is : {X : Type 0} (a b : X) → Some a ≡ Some b → a ≡ b
some_is a b e = cc

pub Contains-cons : {X : Type 0} (x : X) (xs : List X) (y : X) → Contains (x ∷ xs) y → (x ≡ y) ⊎ Contains xs y
Contains-cons x xs y (zero, l, e) = inl e
Contains-cons x xs y (suc k, l, e) = inr (k, (omega arith), e)

pub Contains-first : {X : Type 0} (x : X) (xs : List X) → Contains (x ∷ xs) x
Contains-first x xs = (0, (omega arith), refl)

pub nothing_in : {X : Type 0} (x : X) → Contains {X = X} [] x → ⊥
nothing_in x c = let low = c.1 in absurd (omega arith)

-- the first of what is left, and the others
pub head_of : {X : Type 0} (left rest : List X) (x : X) → left ≡ x ∷ rest → slice_get left 0 ≡ Some x
head_of left rest x is = ap (λ l. slice_get l 0) is

pub later_of : {X : Type 0} (left rest : List X) (x y : X) (k : ℕ) → left ≡ x ∷ rest → slice_get rest k ≡ Some y → slice_get left (suc k) ≡ Some y
later_of left rest x y k is got = ap (λ l. slice_get l (suc k)) is ∙ got

-- what a list has with one more at its end
pub got_snoc : {X : Type 0} (xs : List X) (y z : X) (k : ℕ) → slice_get (xs ++ y ∷ []) k ≡ Some z → (slice_get xs k ≡ Some z) ⊎ ((k ≡ length xs) × (y ≡ z))
got_snoc [] y z zero e = inr (refl, cc)
got_snoc [] y z (suc k) e = absurd (cc)
got_snoc (x ∷ xs) y z zero e = inl e
got_snoc (x ∷ xs) y z (suc k) e = ⊎_elim (λ t. inl t) (λ t. inr (ap suc t.0, t.1)) (got_snoc xs y z k e)

-- an element is there where the number is below the length
pub got_below : {X : Type 0} (xs : List X) (k : ℕ) → k < length xs → (x : X) × (slice_get xs k ≡ Some x)
got_below [] k l = absurd (omega arith)
got_below (x ∷ xs) zero l = (x, refl)
got_below (x ∷ xs) (suc k) l = got_below xs k (omega arith)
