-- Which two of three conflicts are compared first makes no difference.
use Rattle.std.proofs.Common.{◌≡◌, ◌==◌, ℕ, ◌<◌, ◌≤◌, ◌⊎◌, inl, inr, Bool, true, false, cond, ◌&&◌, ◌||◌, Option, Some, None, refl, sym, ap, ap₂, ◌∙◌, eqb-true, lt-ltb, ltb-true, ltb-false, le-ltb, arith}
use Rattle.std.specs.Prelude.{nat_lt}
use Rattle.std.proofs.Math.Bool.{or-true}
use Rattle.std.proofs.lemmas.Bool.{false_from_ne_true, true≢false}
use Rattle.std.proofs.lemmas.Bool.Decides.{Decides-eqb}
use Rattle.ld_model.proofs.Truths.{both}
use Rattle.sum_model.specs.Sums.{Place}
use Rattle.sum_model.specs.Conflicts.{ConflictAt, is_before, earlier}

abbrev IsBefore : Place → Place → Type 0
IsBefore a b = (a.chunk < b.chunk) ⊎ ((a.chunk ≡ b.chunk) × (a.number < b.number))

abbrev IsNotAfter : Place → Place → Type 0
IsNotAfter a b = (a.chunk < b.chunk) ⊎ ((a.chunk ≡ b.chunk) × (a.number ≤ b.number))

and_false : (t : Bool) → (t && false) ≡ false
and_false true = refl
and_false false = refl

below : (a b : ℕ) → b ≤ a → (a == b) ≡ false → b < a
below a b is apart = by_test (nat_lt b a) refl
  where
    by_test : (t : Bool) → nat_lt b a ≡ t → b < a
    by_test true less = ltb-true b a less
    by_test false less =
        let other : a ≤ b = ltb-false b a less in
        let same : a ≡ b = omega arith in
        absurd (true≢false (sym ((Decides-eqb a b).1 same) ∙ apart))

before : (a b : Place) → is_before a b ≡ true → IsBefore a b
before a b = by_test (nat_lt a.chunk b.chunk) refl
  where
    by_test : (t : Bool) → nat_lt a.chunk b.chunk ≡ t → (t || ((a.chunk == b.chunk) && nat_lt a.number b.number)) ≡ true → IsBefore a b
    by_test true less is = inl (ltb-true a.chunk b.chunk less)
    by_test false less is =
        let parts = both (a.chunk == b.chunk) (nat_lt a.number b.number) is in
        inr (eqb-true a.chunk b.chunk parts.0, ltb-true a.number b.number parts.1)

not_before : (a b : Place) → is_before a b ≡ false → IsNotAfter b a
not_before a b = by_test (nat_lt a.chunk b.chunk) refl
  where
    by_equal : (t : Bool) → (a.chunk == b.chunk) ≡ t → b.chunk ≤ a.chunk → (t && nat_lt a.number b.number) ≡ false → IsNotAfter b a
    by_equal true equal most is = inr (sym (eqb-true a.chunk b.chunk equal), ltb-false a.number b.number is)
    by_equal false equal most is = inl (below a.chunk b.chunk most equal)

    by_test : (t : Bool) → nat_lt a.chunk b.chunk ≡ t → (t || ((a.chunk == b.chunk) && nat_lt a.number b.number)) ≡ false → IsNotAfter b a
    by_test true less is = absurd (true≢false is)
    by_test false less is = by_equal (a.chunk == b.chunk) refl (ltb-false a.chunk b.chunk less) is

is_true : (a b : Place) → IsBefore a b → is_before a b ≡ true
is_true a b (inl less) = ap (λ t. t || ((a.chunk == b.chunk) && nat_lt a.number b.number)) (lt-ltb a.chunk b.chunk less)
is_true a b (inr at) =
    ap₂ (λ x y. nat_lt a.chunk b.chunk || (x && y)) ((Decides-eqb a.chunk b.chunk).1 at.0) (lt-ltb a.number b.number at.1)
    ∙ or-true (nat_lt a.chunk b.chunk)

is_false : (a b : Place) → IsNotAfter b a → is_before a b ≡ false
is_false a b (inl less) =
    let apart : (a.chunk == b.chunk) ≡ false = false_from_ne_true (a.chunk == b.chunk) (λ equal. let same : a.chunk ≡ b.chunk = eqb-true a.chunk b.chunk equal in omega arith) in
    ap₂ (λ x y. x || (y && nat_lt a.number b.number)) (le-ltb a.chunk b.chunk (omega (arith, less))) apart
is_false a b (inr at) =
    ap₂ (λ x y. x || ((a.chunk == b.chunk) && y)) (le-ltb a.chunk b.chunk (omega (arith, at.0))) (le-ltb a.number b.number at.1)
    ∙ and_false (a.chunk == b.chunk)

first_of_three : (a b c : Place) → IsBefore a b → IsBefore b c → IsBefore a c
first_of_three a b c (inl x) (inl y) = inl (omega (arith, x, y))
first_of_three a b c (inl x) (inr y) = inl (omega (arith, x, y.0))
first_of_three a b c (inr x) (inl y) = inl (omega (arith, x.0, y))
first_of_three a b c (inr x) (inr y) = inr (x.0 ∙ y.0, omega (arith, x.1, y.1))

not_last_of_three : (a b c : Place) → IsNotAfter a b → IsNotAfter b c → IsNotAfter a c
not_last_of_three a b c (inl x) (inl y) = inl (omega (arith, x, y))
not_last_of_three a b c (inl x) (inr y) = inl (omega (arith, x, y.0))
not_last_of_three a b c (inr x) (inl y) = inl (omega (arith, x.0, y))
not_last_of_three a b c (inr x) (inr y) = inr (x.0 ∙ y.0, omega (arith, x.1, y.1))

pub earlier-assoc : (a b c : Option ConflictAt) → earlier (earlier a b) c ≡ earlier a (earlier b c)
earlier-assoc None b c = refl
earlier-assoc (Some a) None c = refl
earlier-assoc (Some a) (Some b) None = by_test (is_before b.place a.place)
  where
    by_test : (t : Bool) → earlier (cond t (Some b) (Some a)) None ≡ cond t (Some b) (Some a)
    by_test true = refl
    by_test false = refl
earlier-assoc (Some a) (Some b) (Some c) = by_tests (is_before b.place a.place) (is_before c.place b.place) refl refl
  where
    by_tests : (t u : Bool) → is_before b.place a.place ≡ t → is_before c.place b.place ≡ u → earlier (cond t (Some b) (Some a)) (Some c) ≡ earlier (Some a) (cond u (Some c) (Some b))
    by_tests true true second third =
        ap (λ t. cond t (Some c) (Some b)) third
        ∙ sym (ap (λ t. cond t (Some c) (Some a)) (is_true c.place a.place (first_of_three c.place b.place a.place (before c.place b.place third) (before b.place a.place second))))
    by_tests true false second third = ap (λ t. cond t (Some c) (Some b)) third ∙ sym (ap (λ t. cond t (Some b) (Some a)) second)
    by_tests false true second third = refl
    by_tests false false second third =
        ap (λ t. cond t (Some c) (Some a)) (is_false c.place a.place (not_last_of_three a.place b.place c.place (not_before b.place a.place second) (not_before c.place b.place third)))
        ∙ sym (ap (λ t. cond t (Some b) (Some a)) second)

pub before_none : (a : Option ConflictAt) → earlier a None ≡ a
before_none None = refl
before_none (Some a) = refl
