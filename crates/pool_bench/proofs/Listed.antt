-- A list with one more at its end.
use Rattle.std.proofs.Common.{◌≡◌, ℕ, zero, suc, ◌⊎◌, List, [], ◌∷◌, ◌++◌, length, refl, sym, ap, ◌∙◌, inl, inr, ⊎_elim, slice_get, Some}

got_snoc : {X : Type 0} (xs : List X) (y z : X) (k : ℕ) → slice_get (xs ++ y ∷ []) k ≡ Some z → (slice_get xs k ≡ Some z) ⊎ ((k ≡ length xs) × (y ≡ z))
got_snoc [] y z zero e = inr (refl, cc)
got_snoc [] y z (suc k) e = absurd (cc)
got_snoc (x ∷ xs) y z zero e = inl e
got_snoc (x ∷ xs) y z (suc k) e = ⊎_elim (λ t. inl t) (λ t. inr (ap suc t.0, t.1)) (got_snoc xs y z k e)

-- each element is the one of its number
pub each_more : {X : Type 0} (f : ℕ → X) (n : ℕ) (xs ys : List X) (y : X) → length xs ≡ n → ys ≡ xs ++ y ∷ [] → y ≡ f n → ((k : ℕ) (x : X) → slice_get xs k ≡ Some x → x ≡ f k) → (k : ℕ) (x : X) → slice_get ys k ≡ Some x → x ≡ f k
each_more {X} f n xs ys y long more is each k x got = ⊎_elim
    (λ (t : slice_get xs k ≡ Some x). each k x t)
    (λ (t : (k ≡ length xs) × (y ≡ x)). sym t.1 ∙ (is ∙ ap f (sym (t.0 ∙ long))))
    (got_snoc xs y x k (ap (λ (l : List X). slice_get l k) (sym more) ∙ got))
