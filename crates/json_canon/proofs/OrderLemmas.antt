-- The order by UTF-16 code units is a strict total order, and how lists of members stand in it.
use Rattle.std.proofs.Common.{◌≡◌, ◌≢◌, ℕ, ◌<◌, List, [], ◌∷◌, refl, ap, ◌∙◌, true, false, Ordering, Less, Equal, Greater, inl, inr, ◌⊎◌, IsUtf8}
use Rattle.std.specs.Cmp.{IsTotalOrder}
use Rattle.std.specs.Cmp.Lexicographic.{slice_cmp}
use Rattle.std.specs.Ordering.{nat_cmp, is_lt, ordering_reverse}
use Rattle.std.proofs.lemmas.Cmp.{nat_list_cmp_total, on_total, tied_itself, ranked, by_ranked}
use Rattle.json_canon.specs.Utf16.{code_units, utf16_order, comes_before}
use Rattle.json_canon.proofs.Units.{code_units_same}

pub utf16_order_total : IsTotalOrder utf16_order
utf16_order_total = on_total code_units nat_list_cmp_total

pub less_from_before : (o : Ordering) → is_lt o ≡ true → o ≡ Less
less_from_before Less is = refl
less_from_before Equal is = absurd (cc)
less_from_before Greater is = absurd (cc)

pub before_itself : (a : List ℕ) → comes_before a a ≡ false
before_itself a = ap is_lt (tied_itself utf16_order_total a)

pub before_trans : (a b c : List ℕ) → comes_before a b ≡ true → comes_before b c ≡ true → comes_before a c ≡ true
before_trans a b c ab bc =
    ap is_lt (utf16_order_total.trans a b c (less_from_before _ ab) (less_from_before _ bc))

units_tie : (xs ys : List ℕ) → slice_cmp nat_cmp xs ys ≡ Equal → xs ≡ ys
units_tie [] [] e = refl
units_tie [] (y ∷ ys) e = absurd (cc)
units_tie (x ∷ xs) [] e = absurd (cc)
units_tie (x ∷ xs) (y ∷ ys) e = by_ranked (x < y) (x ≡ y) (y < x) (nat_cmp x y) (ranked x y _ refl) (λ is less. absurd (let k = rw is at e in cc)) (λ is same. let rest = units_tie xs ys (rw is at e) in cc) (λ is more. absurd (let k = rw is at e in cc))

-- Two texts that tie are the same.
pub tie_same : (a b : List ℕ) → IsUtf8 a → IsUtf8 b → utf16_order a b ≡ Equal → a ≡ b
tie_same a b u v e = code_units_same a b u v (units_tie _ _ e)

pub before_total : (a b : List ℕ) → IsUtf8 a → IsUtf8 b → a ≢ b → (comes_before a b ≡ true) ⊎ (comes_before b a ≡ true)
before_total a b u v differ = by_order (utf16_order a b) refl
  where
    by_order : (o : Ordering) → utf16_order a b ≡ o → (comes_before a b ≡ true) ⊎ (comes_before b a ≡ true)
    by_order Less is = inl (ap is_lt is)
    by_order Equal is = absurd (differ (tie_same a b u v is))
    by_order Greater is = inr (ap is_lt (utf16_order_total.antisymm b a ∙ ap ordering_reverse is))
