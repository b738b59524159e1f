-- Lists of views: their shares, what is at a number, and what a seat keeps of a shard.
use Rattle.std.proofs.Common.{◌≡◌, ℕ, zero, suc, ◌+◌, ◌≤◌, ◌≢◌, ◌⊎◌, List, [], ◌∷◌, ◌++◌, length, set, get_or, map, refl, sym, ap, ◌∙◌, inl, inr, ⊎_elim, Some, arith}
use mathlib.Core.Option.{some, some-injective}
use lib.ListN.{get_elem?}
use Rattle.shard_map.specs.declared.view.Keep.{Keep}
use Rattle.shard_map.specs.declared.view.View.{View}
use Rattle.shard_map.specs.Views.{total, unseen, both_keeps}

pub same_at : {A : Type 0} (l : List A) (i : ℕ) (a b : A) → get_elem? l i ≡ some a → get_elem? l i ≡ some b → a ≡ b
same_at l i a b e f = some-injective a b (sym e ∙ f)

pub at_here : {A : Type 0} (l : List A) (i : ℕ) (a b : A) → get_elem? l i ≡ some b → get_elem? (set l i a) i ≡ some a
at_here [] i a b e = absurd (cc)
at_here (x ∷ xs) zero a b e = refl
at_here (x ∷ xs) (suc i) a b e = at_here xs i a b e

module _ {J : Type 0} where
  pub total-set : (vs : List (View J)) (id : ℕ) (v w : View J) → get_elem? vs id ≡ some v → total (set vs id w) + v.share ≡ total vs + w.share
  total-set [] id v w e = absurd (cc)
  total-set (x ∷ xs) zero v w e = let s = ap (λ (z : View J). z.share) (some-injective x v e) in omega arith
  total-set (x ∷ xs) (suc id) v w e = let h = total-set xs id v w e in omega arith

  pub total-last : (vs : List (View J)) (w : View J) → total (vs ++ w ∷ []) ≡ total vs + w.share
  total-last [] w = omega arith
  total-last (x ∷ xs) w = let h = total-last xs w in omega arith

  pub share_in : (vs : List (View J)) (id : ℕ) (v : View J) → get_elem? vs id ≡ some v → v.share ≤ total vs
  share_in [] id v e = absurd (cc)
  share_in (x ∷ xs) zero v e = let s = ap (λ (z : View J). z.share) (some-injective x v e) in omega arith
  share_in (x ∷ xs) (suc id) v e = let h = share_in xs id v e in omega arith

  pub two_shares : (vs : List (View J)) (a b : ℕ) (v w : View J) → a ≢ b → get_elem? vs a ≡ some v → get_elem? vs b ≡ some w → v.share + w.share ≤ total vs
  two_shares [] a b v w ne e f = absurd (cc)
  two_shares (x ∷ xs) zero zero v w ne e f = absurd (ne refl)
  two_shares (x ∷ xs) zero (suc b) v w ne e f = let s = ap (λ (z : View J). z.share) (some-injective x v e) in let h = share_in xs b w f in omega arith
  two_shares (x ∷ xs) (suc a) zero v w ne e f = let s = ap (λ (z : View J). z.share) (some-injective x w f) in let h = share_in xs a v e in omega arith
  two_shares (x ∷ xs) (suc a) (suc b) v w ne e f = let h = two_shares xs a b v w (λ q. ne (ap suc q)) e f in omega arith

-- what was left at a shard, after a change at one
pub left-set : (l : List Keep) (j i n : ℕ) (k : Keep) → (get_or (set l j k) i unseen).left ≡ Some n → ((j ≡ i) × (k.left ≡ Some n)) ⊎ ((j ≢ i) × ((get_or l i unseen).left ≡ Some n))
left-set [] j i n k e = absurd (cc)
left-set (x ∷ xs) zero zero n k e = inl (refl, e)
left-set (x ∷ xs) zero (suc i) n k e = inr ((λ q. omega arith), e)
left-set (x ∷ xs) (suc j) zero n k e = inr ((λ q. omega arith), e)
left-set (x ∷ xs) (suc j) (suc i) n k e = ⊎_elim (λ t. inl (ap suc t.0, t.1)) (λ t. let ne = t.0 in inr ((λ q. ne (omega arith)), t.1)) (left-set xs j i n k e)

pub left-unseen : (ks : List Keep) (i n : ℕ) → (get_or (map (λ (k : Keep). unseen) ks) i unseen).left ≡ Some n → ⊥
left-unseen [] i n e = absurd (cc)
left-unseen (k ∷ ks) zero n e = absurd (cc)
left-unseen (k ∷ ks) (suc i) n e = left-unseen ks i n e

pub left-both : (ks ls : List Keep) (i n : ℕ) → (get_or (both_keeps ks ls) i unseen).left ≡ Some n → ⊥
left-both [] ls i n e = absurd (cc)
left-both (k ∷ ks) [] zero n e = absurd (cc)
left-both (k ∷ ks) [] (suc i) n e = left-both ks [] i n e
left-both (k ∷ ks) (l ∷ ls) zero n e = absurd (cc)
left-both (k ∷ ks) (l ∷ ls) (suc i) n e = left-both ks ls i n e

pub length-both : (ks ls : List Keep) → length (both_keeps ks ls) ≡ length ks
length-both [] ls = refl
length-both (k ∷ ks) [] = ap suc (length-both ks [])
length-both (k ∷ ks) (l ∷ ls) = ap suc (length-both ks ls)
