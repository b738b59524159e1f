-- The test is true exactly for legal plans.
use Rattle.std.proofs.Common.{◌⊎◌, inl, inr, ℕ, ◌≡◌, ◌+◌, ◌&&◌, ◌||◌, nat_le, nat_lt, List, [], ◌∷◌, ◌++◌, Bool, true, false, Option, None, Some, refl, sym, ap, ◌∙◌, subst, arith}
use Rattle.std.specs.Prelude.{if◌then◌else◌}
use Rattle.std.specs.List.{AllByRecursion}
use Rattle.ld_json.specs.declared.location.Step.{Step}
use Rattle.ld_json.specs.declared.location.Step.TheVariants.{Key, Item}
use Rattle.expand_model.specs.Scope.{in_item}
use Rattle.cut_model.specs.Pieces.{Piece, count, same_step}
use Rattle.cut_model.specs.Legal.{HasItem, IsOutside, IsNonEmpty, AreApart, IsLegal}
use Rattle.cut_model.specs.LegalTest.{way_from, ends_before, lacks_item, is_outside_by, is_outside, is_apart_from_all, is_legal}
use Rattle.cut_laws.proofs.Lists.{is_some, some_or, append_assoc, append_nil}
use Rattle.cut_laws.proofs.Regions.{item_number}
use Rattle.cut_laws.proofs.Places.{and_left, and_right, step_same, step_exact}

-- what is left
way_behind : (p r : List Step) → way_from p (p ++ r) ≡ Some r
way_behind [] r = refl
way_behind (x ∷ p) r = ap (λ b. if b then way_from p (p ++ r) else None) (step_same x) ∙ way_behind p r

way_exact : (p q r : List Step) → way_from p q ≡ Some r → q ≡ p ++ r
way_exact [] q r h = ap (λ o. some_or q o) h
way_exact (x ∷ p) [] r h = absurd (subst is_some (sym h) tt)
way_exact (x ∷ p) (y ∷ q) r h = by (same_step x y) refl h (λ k. way_exact p q r k)
  where
    by : (b : Bool) → same_step x y ≡ b → (if b then way_from p q else None) ≡ Some r → (way_from p q ≡ Some r → q ≡ p ++ r) → y ∷ q ≡ x ∷ (p ++ r)
    by true is k rest = ap (λ z. z ∷ q) (sym (step_exact x y is)) ∙ ap (λ z. x ∷ z) (rest k)
    by false is k rest = absurd (subst is_some (sym k) tt)

-- the last step of a place
start_of : List Step → List Step
start_of [] = []
start_of (x ∷ []) = []
start_of (x ∷ y ∷ ys) = x ∷ start_of (y ∷ ys)

last_of : Step → List Step → Step
last_of d [] = d
last_of d (x ∷ xs) = last_of x xs

start_more : (p : List Step) (x : Step) → start_of (p ++ x ∷ []) ≡ p
unfolding start_of
start_more [] x = refl
start_more (y ∷ []) x = refl
start_more (y ∷ z ∷ zs) x = ap (λ ws. y ∷ ws) (start_more (z ∷ zs) x)

last_more : (d : Step) (p : List Step) (x : Step) → last_of d (p ++ x ∷ []) ≡ x
unfolding last_of
last_more d [] x = refl
last_more d (y ∷ p) x = last_more y p x

abbrev Ended : List Step → Type 0
Ended r = (r ≡ []) ⊎ ((s : List Step) × (x : Step) × (r ≡ s ++ x ∷ []))

ended : (r : List Step) → Ended r
ended [] = inl refl
ended (x ∷ r) = by (ended r)
  where
    by : Ended r → Ended (x ∷ r)
    by (inl h) = inr ([], x, ap (λ z. x ∷ z) h)
    by (inr h) = inr (x ∷ h.0, h.1, ap (λ z. x ∷ z) h.2)

or_split : (a b : Bool) → a || b ≡ true → (a ≡ true) ⊎ (b ≡ true)
or_split true b h = inl refl
or_split false b h = inr h

lacks_exact : (x : Piece) (n : ℕ) → lacks_item x n ≡ true → HasItem x n → ⊥
lacks_exact x n h has = by (or_split (nat_lt n x.from) (nat_le (x.from + count x.items) n) h)
  where
    by : (nat_lt n x.from ≡ true) ⊎ (nat_le (x.from + count x.items) n ≡ true) → ⊥
    by (inl k) = let a = has.0 in grind (arith, k, a)
    by (inr k) = let a = has.1 in grind (arith, k, a)

outside_from : (x y : Piece) → is_outside x y ≡ true → IsOutside x y
outside_from x y h n has within = by (ended within.2)
  where
    by : Ended within.2 → ⊥
    by (inl e) =
        let same : in_item n y.at.place ≡ in_item within.0 x.at.place = within.3 ∙ ap (λ r. in_item within.0 x.at.place ++ r) e ∙ append_nil (in_item within.0 x.at.place) in
        let place : y.at.place ≡ x.at.place ++ [] = sym (start_more y.at.place (Item n)) ∙ ap start_of same ∙ start_more x.at.place (Item within.0) ∙ sym (append_nil x.at.place) in
        let number : n ≡ within.0 = item_number n within.0 (sym (last_more (Item 0) y.at.place (Item n)) ∙ ap (last_of (Item 0)) same ∙ last_more (Item 0) x.at.place (Item within.0)) in
        let is : ends_before x y || ends_before y x ≡ true = sym (ap (is_outside_by x y) (ap (way_from x.at.place) place ∙ way_behind x.at.place [])) ∙ h in
        overlap number (or_split (ends_before x y) (ends_before y x) is)
      where
        overlap : n ≡ within.0 → (ends_before x y ≡ true) ⊎ (ends_before y x ≡ true) → ⊥
        overlap e (inl k) = let a = has.0 in let b = within.1.1 in grind (arith, k, a, b, e)
        overlap e (inr k) = let a = has.1 in let b = within.1.0 in grind (arith, k, a, b, e)
    by (inr e) =
        let same : in_item n y.at.place ≡ (in_item within.0 x.at.place ++ e.0) ++ e.1 ∷ [] = within.3 ∙ ap (λ r. in_item within.0 x.at.place ++ r) e.2 ∙ sym (append_assoc (in_item within.0 x.at.place) e.0 (e.1 ∷ [])) in
        let place : y.at.place ≡ x.at.place ++ Item within.0 ∷ e.0 = sym (start_more y.at.place (Item n)) ∙ ap start_of same ∙ start_more (in_item within.0 x.at.place ++ e.0) e.1 ∙ append_assoc x.at.place (Item within.0 ∷ []) e.0 in
        lacks_exact x within.0 (sym (ap (is_outside_by x y) (ap (way_from x.at.place) place ∙ way_behind x.at.place (Item within.0 ∷ e.0))) ∙ h) within.1

outside_to : (x y : Piece) → IsNonEmpty x → IsNonEmpty y → IsOutside x y → is_outside x y ≡ true
outside_to x y some other out = by (way_from x.at.place y.at.place) refl
  where
    by : (o : Option (List Step)) → way_from x.at.place y.at.place ≡ o → is_outside_by x y o ≡ true
    by None h = refl
    by (Some (Key k ∷ r)) h = refl
    by (Some []) h =
        let place : y.at.place ≡ x.at.place = way_exact x.at.place y.at.place [] h ∙ append_nil x.at.place in
        let clash : (n : ℕ) → HasItem y n → HasItem x n → ⊥ = λ n has has′. out n has (n, has′, [], ap (in_item n) place ∙ sym (append_nil (in_item n x.at.place))) in
        same clash (nat_le (x.from + count x.items) y.from) refl (nat_le (y.from + count y.items) x.from) refl (nat_le x.from y.from) refl
      where
        same : ((n : ℕ) → HasItem y n → HasItem x n → ⊥) → (a : Bool) → nat_le (x.from + count x.items) y.from ≡ a → (b : Bool) → nat_le (y.from + count y.items) x.from ≡ b → (c : Bool) → nat_le x.from y.from ≡ c → a || b ≡ true
        same clash true p b q c r = refl
        same clash false p true q c r = refl
        same clash false p false q true r = absurd (clash y.from (grind arith, grind (arith, other)) (grind (arith, r), grind (arith, p)))
        same clash false p false q false r = absurd (clash x.from (grind (arith, r), grind (arith, q)) (grind arith, grind (arith, some)))
    by (Some (Item m ∷ r)) h =
        let place : y.at.place ≡ x.at.place ++ Item m ∷ r = way_exact x.at.place y.at.place (Item m ∷ r) h in
        let clash : HasItem x m → ⊥ = λ has. out y.from (grind arith, grind (arith, other)) (m, has, r ++ Item y.from ∷ [], ap (in_item y.from) place ∙ append_assoc x.at.place (Item m ∷ r) (Item y.from ∷ []) ∙ sym (append_assoc x.at.place (Item m ∷ []) (r ++ Item y.from ∷ []))) in
        lack clash (nat_lt m x.from) refl (nat_le (x.from + count x.items) m) refl
      where
        lack : (HasItem x m → ⊥) → (a : Bool) → nat_lt m x.from ≡ a → (b : Bool) → nat_le (x.from + count x.items) m ≡ b → a || b ≡ true
        lack clash true p b q = refl
        lack clash false p true q = refl
        lack clash false p false q = absurd (clash (grind (arith, p), grind (arith, q)))

all_from : (x : Piece) (ys : List Piece) → is_apart_from_all x ys ≡ true → AllByRecursion (λ y. AreApart x y) ys
all_from x [] h = tt
all_from x (y ∷ ys) h =
    let k = and_right (is_outside x y) (is_outside y x && is_apart_from_all x ys) h in
    ((outside_from x y (and_left (is_outside x y) (is_outside y x && is_apart_from_all x ys) h), outside_from y x (and_left (is_outside y x) (is_apart_from_all x ys) k)), all_from x ys (and_right (is_outside y x) (is_apart_from_all x ys) k))

and_both : (a b : Bool) → a ≡ true → b ≡ true → a && b ≡ true
and_both true b h k = k
and_both false b h k = h

all_to : (x : Piece) (ys : List Piece) → IsNonEmpty x → IsLegal ys → AllByRecursion (λ y. AreApart x y) ys → is_apart_from_all x ys ≡ true
all_to x [] some legal h = refl
all_to x (y ∷ ys) some legal h = and_both (is_outside x y) _ (outside_to x y some legal.0 h.0.0) (and_both (is_outside y x) (is_apart_from_all x ys) (outside_to y x legal.0 some h.0.1) (all_to x ys some legal.2 h.1))

pub legal_from : (xs : List Piece) → is_legal xs ≡ true → IsLegal xs
legal_from [] h = tt
legal_from (x ∷ xs) h =
    let some = and_left (nat_lt 0 (count x.items)) (is_apart_from_all x xs && is_legal xs) h in
    let k = and_right (nat_lt 0 (count x.items)) (is_apart_from_all x xs && is_legal xs) h in
    (grind (arith, some), all_from x xs (and_left (is_apart_from_all x xs) (is_legal xs) k), legal_from xs (and_right (is_apart_from_all x xs) (is_legal xs) k))

pub legal_to : (xs : List Piece) → IsLegal xs → is_legal xs ≡ true
legal_to [] h = refl
legal_to (x ∷ xs) h = let some = h.0 in and_both (nat_lt 0 (count x.items)) _ (grind (arith, some)) (and_both (is_apart_from_all x xs) (is_legal xs) (all_to x xs h.0 h.2 h.1) (legal_to xs h.2))
