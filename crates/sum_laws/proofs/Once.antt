-- A list without repetition.
use Rattle.std.proofs.Common.{◌≡◌, List, [], ◌∷◌, ◌++◌, Bool, true, false, cond, not, refl, sym, ap, ◌∙◌}
use Rattle.std.specs.Prelude.{filter}
use Rattle.std.specs.List.{AllByRecursion, IsDistinct}
use Rattle.std.proofs.Math.Bool.{or-false}
use Rattle.std.proofs.lemmas.Map.Keys.{IsDistinct-cons, IsDistinct-head, IsDistinct-tail}
use Rattle.sum_model.specs.Joins.{lists_joined}
use Rattle.sum_laws.specs.Said.{once, only}
use Rattle.sum_laws.proofs.Lists.{IsExact, lists-monoid}

module _ {X : Type 0} where
  pub once-only : (same : X → X → Bool) (holds : Bool) (x : X) → once same (only holds x) ≡ only holds x
  once-only same true x = refl
  once-only same false x = refl

  pub all-filter : (P : X → Type 0) (p : X → Bool) (xs : List X) → AllByRecursion P xs → AllByRecursion P (filter p xs)
  all-filter P p [] all = tt
  all-filter P p (x ∷ xs) all = by_test (p x) (all-filter P p xs all.1)
    where
      by_test : (t : Bool) → AllByRecursion P (filter p xs) → AllByRecursion P (cond t (x ∷ filter p xs) (filter p xs))
      by_test true rest = (all.0, rest)
      by_test false rest = rest

module _ {X : Type 0} (same : X → X → Bool) where
  distinct-filter : (p : X → Bool) (xs : List X) → IsDistinct same xs → IsDistinct same (filter p xs)
  distinct-filter p [] is = is
  distinct-filter p (x ∷ xs) is = by_test (p x) (distinct-filter p xs (IsDistinct-tail same x xs is))
    where
      by_test : (t : Bool) → IsDistinct same (filter p xs) → IsDistinct same (cond t (x ∷ filter p xs) (filter p xs))
      by_test true rest = IsDistinct-cons same x (filter p xs) (all-filter (λ y. same x y ≡ false) p xs (IsDistinct-head same x xs is)) rest
      by_test false rest = rest

  others_differ : (x : X) (ys : List X) → AllByRecursion (λ y. same x y ≡ false) (filter (λ y. not (same x y)) ys)
  others_differ x [] = tt
  others_differ x (y ∷ ys) = by_test (same x y) refl (others_differ x ys)
    where
      by_test : (t : Bool) → same x y ≡ t → AllByRecursion (λ y. same x y ≡ false) (filter (λ y. not (same x y)) ys) → AllByRecursion (λ y. same x y ≡ false) (cond (not t) (y ∷ filter (λ y. not (same x y)) ys) (filter (λ y. not (same x y)) ys))
      by_test true is rest = rest
      by_test false is rest = (is, rest)

  pub distinct-once : (xs : List X) → IsDistinct same (once same xs)
  unfolding IsDistinct
  distinct-once [] = tt
  distinct-once (x ∷ xs) = (others_differ x (once same xs), distinct-filter (λ y. not (same x y)) (once same xs) (distinct-once xs))

module _ {X : Type 0} (same : X → X → Bool) (exact : IsExact same) (turn : (x y : X) → same x y ≡ same y x) where
  first_joined : (x : X) (xs : List X) → once same (x ∷ xs) ≡ lists_joined same (x ∷ []) (once same xs)
  first_joined x xs = ap (λ p. x ∷ filter p (once same xs)) (λ i y. not ((turn x y ∙ sym (or-false (same y x))) i))

  -- What two lists have without repetition is joined.
  pub once-append : (xs ys : List X) → once same (xs ++ ys) ≡ lists_joined same (once same xs) (once same ys)
  once-append [] ys = sym ((lists-monoid same exact).left (once same ys))
  once-append (x ∷ xs) ys =
      first_joined x (xs ++ ys)
      ∙ ap (lists_joined same (x ∷ [])) (once-append xs ys)
      ∙ sym ((lists-monoid same exact).assoc (x ∷ []) (once same xs) (once same ys))
      ∙ ap (λ l. lists_joined same l (once same ys)) (sym (first_joined x xs))
