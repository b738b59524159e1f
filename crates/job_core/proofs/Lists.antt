-- Lists with one element written, and lists of one element many times.
use Rattle.std.proofs.Common.{◌≡◌, ℕ, zero, suc, ◌<◌, ◌≢◌, ◌⊎◌, Bool, true, false, ◌&&◌, List, [], ◌∷◌, length, replicate, set, get_or, refl, ap, inl, inr, ⊎_elim, arith}

-- An element of a list that was written is the new one, at its place, or the old one.
pub written : {A : Type 0} (l : List A) (at n : ℕ) (x d : A) → ((at ≡ n) × (get_or (set l at x) n d ≡ x)) ⊎ (get_or (set l at x) n d ≡ get_or l n d)
written [] at n x d = inr refl
written (y ∷ ys) zero zero x d = inl (refl, refl)
written (y ∷ ys) zero (suc n) x d = inr refl
written (y ∷ ys) (suc at) zero x d = inr refl
written (y ∷ ys) (suc at) (suc n) x d = ⊎_elim (λ here. inl (ap suc here.0, here.1)) (λ there. inr there) (written ys at n x d)

pub written_here : {A : Type 0} (l : List A) (at : ℕ) (x d : A) → at < length l → get_or (set l at x) at d ≡ x
written_here [] at x d low = absurd (omega arith)
written_here (y ∷ ys) zero x d low = refl
written_here (y ∷ ys) (suc at) x d low = written_here ys at x d (omega arith)

pub written_elsewhere : {A : Type 0} (l : List A) (at n : ℕ) (x d : A) → at ≢ n → get_or (set l at x) n d ≡ get_or l n d
written_elsewhere l at n x d other = ⊎_elim (λ here. absurd (other here.0)) (λ there. there) (written l at n x d)

pub copies_read : {A : Type 0} (count n : ℕ) (x : A) → get_or (replicate count x) n x ≡ x
copies_read zero n x = refl
copies_read (suc count) zero x = refl
copies_read (suc count) (suc n) x = copies_read count n x

pub both_true : (a b : Bool) → (a && b) ≡ true → (a ≡ true) × (b ≡ true)
both_true true b e = (refl, e)
both_true false b e = cc
