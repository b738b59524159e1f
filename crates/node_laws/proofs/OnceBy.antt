-- Elements that are added one after another, each unless it repeats one that is there, are those that repeat no earlier one.
use Rattle.std.proofs.Common.{◌≡◌, List, [], ◌∷◌, ◌++◌, Bool, true, false, cond, ◌&&◌, ◌||◌, not, if◌then◌else◌, refl, sym, ap, ◌∙◌, subst, append_assoc, append-nil}
use Rattle.std.specs.Prelude.{⊤, filter}
use Rattle.std.specs.List.{AllByRecursion, list_any}
use Rattle.std.proofs.lemmas.List.Folds.{list_any-append}
use Rattle.node_laws.specs.Stated.{once_by}

module _ {X : Type 0} (repeats : X → X → Bool) where
  abbrev pub added_by : X → List X → List X
  added_by x held = if list_any (repeats x) held then held else (held ++ x ∷ [])

  abbrev pub all_added : List X → List X → List X
  all_added held [] = held
  all_added held (x ∷ xs) = all_added (added_by x held) xs

  abbrev is_new : List X → X → Bool
  is_new held x = not (list_any (repeats x) held)

  all_new : (xs : List X) → filter (is_new []) xs ≡ xs
  all_new [] = refl
  all_new (x ∷ xs) = ap (λ l. x ∷ l) (all_new xs)

  -- Two filters, one after the other.
  filtered : (p q r : X → Bool) → ((x : X) → r x ≡ (q x && p x)) → (xs : List X) → filter r xs ≡ filter p (filter q xs)
  filtered p q r is [] = refl
  filtered p q r is (x ∷ xs) = by_tests (q x) (p x) refl refl (filtered p q r is xs)
    where
      by_tests : (b c : Bool) → q x ≡ b → p x ≡ c → filter r xs ≡ filter p (filter q xs) → filter r (x ∷ xs) ≡ filter p (filter q (x ∷ xs))
      by_tests true true qx px rest = rw (is x, qx, px) (ap (λ l. x ∷ l) rest)
      by_tests true false qx px rest = rw (is x, qx, px) rest
      by_tests false c qx px rest = rw (is x, qx) rest

  module _ (exact : (x y : X) → repeats x y ≡ true → x ≡ y) where
    new_beside_old : (x : X) (held : List X) → list_any (repeats x) held ≡ true → (y : X) → is_new held y ≡ (not (repeats y x) && is_new held y)
    new_beside_old x held old y = by_test (repeats y x) refl
      where
        by_test : (b : Bool) → repeats y x ≡ b → is_new held y ≡ (not b && is_new held y)
        by_test true same = subst (λ z. is_new held z ≡ false) (sym (exact y x same)) (ap not old)
        by_test false same = refl

    new_beside_new : (x : X) (held : List X) (y : X) → is_new (held ++ x ∷ []) y ≡ (not (repeats y x) && is_new held y)
    new_beside_new x held y = ap not (list_any-append (repeats y) held (x ∷ [])) ∙ turned (list_any (repeats y) held) (repeats y x)
      where
        turned : (a b : Bool) → not (a || (b || false)) ≡ (not b && not a)
        turned true true = refl
        turned true false = refl
        turned false true = refl
        turned false false = refl

    added_after : (held xs : List X) → all_added held xs ≡ held ++ filter (is_new held) (once_by repeats xs)
    added_after held [] = sym (append-nil held)
    added_after held (x ∷ xs) = by_test (list_any (repeats x) held) refl (added_after held xs) (added_after (held ++ x ∷ []) xs)
      where
        kept : List X
        kept = filter (λ y. not (repeats y x)) (once_by repeats xs)

        by_test : (b : Bool) → list_any (repeats x) held ≡ b → all_added held xs ≡ held ++ filter (is_new held) (once_by repeats xs)
            → all_added (held ++ x ∷ []) xs ≡ (held ++ x ∷ []) ++ filter (is_new (held ++ x ∷ [])) (once_by repeats xs)
            → all_added (if b then held else (held ++ x ∷ [])) xs ≡ held ++ cond (not (list_any (repeats x) held)) (x ∷ filter (is_new held) kept) (filter (is_new held) kept)
        by_test true old without with_it =
            without
            ∙ ap (λ l. held ++ l) (filtered (is_new held) (λ y. not (repeats y x)) (is_new held) (new_beside_old x held old) (once_by repeats xs))
            ∙ ap (λ b. held ++ cond (not b) (x ∷ filter (is_new held) kept) (filter (is_new held) kept)) (sym old)
        by_test false new without with_it =
            with_it
            ∙ append_assoc held (x ∷ []) (filter (is_new (held ++ x ∷ [])) (once_by repeats xs))
            ∙ ap (λ l. held ++ x ∷ l) (filtered (is_new held) (λ y. not (repeats y x)) (is_new (held ++ x ∷ [])) (new_beside_new x held) (once_by repeats xs))
            ∙ ap (λ b. held ++ cond (not b) (x ∷ filter (is_new held) kept) (filter (is_new held) kept)) (sym new)

    pub all_added-once : (xs : List X) → all_added [] xs ≡ once_by repeats xs
    all_added-once xs = added_after [] xs ∙ all_new (once_by repeats xs)

  pub all_added-append : (held xs ys : List X) → all_added held (xs ++ ys) ≡ all_added (all_added held xs) ys
  all_added-append held [] ys = refl
  all_added-append held (x ∷ xs) ys = all_added-append (added_by x held) xs ys

  -- What repeats nothing earlier stays.
  abbrev Apart : List X → Type 0
  Apart [] = ⊤
  Apart (x ∷ xs) = AllByRecursion (λ y. repeats y x ≡ false) xs × Apart xs

  all_filtered : (P : X → Type 0) (test : X → Bool) (xs : List X) → AllByRecursion P xs → AllByRecursion P (filter test xs)
  all_filtered P test [] all = tt
  all_filtered P test (x ∷ xs) all = by_test (test x) (all_filtered P test xs all.1)
    where
      by_test : (b : Bool) → AllByRecursion P (filter test xs) → AllByRecursion P (cond b (x ∷ filter test xs) (filter test xs))
      by_test true rest = (all.0, rest)
      by_test false rest = rest

  apart_filtered : (test : X → Bool) (xs : List X) → Apart xs → Apart (filter test xs)
  apart_filtered test [] apart = tt
  apart_filtered test (x ∷ xs) apart = by_test (test x) (apart_filtered test xs apart.1)
    where
      by_test : (b : Bool) → Apart (filter test xs) → Apart (cond b (x ∷ filter test xs) (filter test xs))
      by_test true rest = (all_filtered (λ y. repeats y x ≡ false) test xs apart.0, rest)
      by_test false rest = rest

  others_apart : (x : X) (xs : List X) → AllByRecursion (λ y. repeats y x ≡ false) (filter (λ y. not (repeats y x)) xs)
  others_apart x [] = tt
  others_apart x (y ∷ xs) = by_test (repeats y x) refl (others_apart x xs)
    where
      by_test : (b : Bool) → repeats y x ≡ b → AllByRecursion (λ y. repeats y x ≡ false) (filter (λ y. not (repeats y x)) xs) → AllByRecursion (λ y. repeats y x ≡ false) (cond (not b) (y ∷ filter (λ y. not (repeats y x)) xs) (filter (λ y. not (repeats y x)) xs))
      by_test true same rest = rest
      by_test false other rest = (other, rest)

  once_apart : (xs : List X) → Apart (once_by repeats xs)
  once_apart [] = tt
  once_apart (x ∷ xs) = (others_apart x (once_by repeats xs), apart_filtered (λ y. not (repeats y x)) (once_by repeats xs) (once_apart xs))

  all_stay : (x : X) (xs : List X) → AllByRecursion (λ y. repeats y x ≡ false) xs → filter (λ y. not (repeats y x)) xs ≡ xs
  all_stay x [] all = refl
  all_stay x (y ∷ xs) all = ap (λ b. cond (not b) (y ∷ filter (λ y. not (repeats y x)) xs) (filter (λ y. not (repeats y x)) xs)) all.0 ∙ ap (λ l. y ∷ l) (all_stay x xs all.1)

  apart_stays : (xs : List X) → Apart xs → once_by repeats xs ≡ xs
  apart_stays [] apart = refl
  apart_stays (x ∷ xs) apart = ap (λ l. x ∷ filter (λ y. not (repeats y x)) l) (apart_stays xs apart.1) ∙ ap (λ l. x ∷ l) (all_stay x xs apart.0)

  pub once_again : (xs : List X) → once_by repeats (once_by repeats xs) ≡ once_by repeats xs
  once_again xs = apart_stays (once_by repeats xs) (once_apart xs)
