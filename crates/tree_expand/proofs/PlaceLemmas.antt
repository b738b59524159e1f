-- Places, compared from their ends.
use Rattle.std.proofs.Common.{suc, ◌≡◌, ◌&&◌, List, [], ◌∷◌, ◌++◌, Bool, true, false, length, refl, sym, ap, ◌∙◌}
use Rattle.ld_json.specs.declared.location.Step.{Step}
use Rattle.cut_model.specs.Pieces.{same_step, same_place}
use Rattle.cut_laws.proofs.Places.{and_left, and_right, step_exact}

-- Places of different lengths differ.
pub places_differ : (p q : List Step) → (length p ≡ length q → ⊥) → false ≡ same_place p q
places_differ [] [] h = absurd (h refl)
places_differ [] (y ∷ q) h = refl
places_differ (x ∷ p) [] h = refl
places_differ (x ∷ p) (y ∷ q) h = by (same_step x y) (places_differ p q (λ e. h (ap suc e)))
  where
    by : (b : Bool) → false ≡ same_place p q → false ≡ b && same_place p q
    by true rest = rest
    by false rest = refl

-- The last steps are compared last.
last_none : (p : List Step) (x : Step) → same_place (p ++ x ∷ []) [] ≡ false
last_none [] x = refl
last_none (y ∷ p) x = refl

and_last : (a b c : Bool) → a && (b && c) ≡ (a && b) && c
and_last true b c = refl
and_last false b c = refl

nothing_more : (x y z : Step) (q : List Step) → same_step x y && same_place [] (z ∷ q) ≡ false
nothing_more x y z q = by (same_step x y)
  where
    by : (b : Bool) → b && false ≡ false
    by true = refl
    by false = refl

same_last : (p q : List Step) (x y : Step) → same_place (p ++ x ∷ []) (q ++ y ∷ []) ≡ same_place p q && same_step x y
same_last [] [] x y = by (same_step x y)
  where
    by : (b : Bool) → b && true ≡ b
    by true = refl
    by false = refl
same_last [] (z ∷ []) x y = nothing_more x z y []
same_last [] (z ∷ w ∷ q) x y = nothing_more x z w (q ++ y ∷ [])
same_last (z ∷ []) [] x y = by (same_step z y)
  where
    by : (b : Bool) → b && false ≡ false
    by true = refl
    by false = refl
same_last (z ∷ w ∷ p) [] x y = by (same_step z y)
  where
    by : (b : Bool) → b && false ≡ false
    by true = refl
    by false = refl
same_last (z ∷ p) (w ∷ q) x y = ap (λ b. same_step z w && b) (same_last p q x y) ∙ and_last (same_step z w) (same_place p q) (same_step x y)

-- Places whose last step stands by itself, compared with a list of steps: with none, and from its last one on.
pub none_left : (v p q : List Step) (x : Step) → v ≡ p ++ x ∷ [] → length q ≡ 0 → false ≡ same_place v q
none_left v p [] x is h = sym (ap (λ z. same_place z []) is ∙ last_none p x)
none_left v p (y ∷ q) x is h = cc

pub with_last : (v p q front : List Step) (x y : Step) (r s : Bool) → v ≡ p ++ x ∷ [] → q ≡ front ++ y ∷ [] → r ≡ same_step x y → r ≡ true → s ≡ same_place p front → s ≡ same_place v q
with_last v p q front x y r s is ends step same rest =
    rest ∙ sym (ap (λ z. same_place z q) is ∙ ap (λ z. same_place (p ++ x ∷ []) z) ends ∙ same_last p front x y ∙ ap (λ b. same_place p front && b) (sym step ∙ same) ∙ and_true (same_place p front))
  where
    and_true : (b : Bool) → b && true ≡ b
    and_true true = refl
    and_true false = refl

pub other_last : (v p q front : List Step) (x y : Step) (r : Bool) → v ≡ p ++ x ∷ [] → q ≡ front ++ y ∷ [] → r ≡ same_step x y → r ≡ false → r ≡ same_place v q
other_last v p q front x y r is ends step other =
    other ∙ sym (ap (λ z. same_place z q) is ∙ ap (λ z. same_place (p ++ x ∷ []) z) ends ∙ same_last p front x y ∙ ap (λ b. same_place p front && b) (sym step ∙ other) ∙ and_false (same_place p front))
  where
    and_false : (b : Bool) → b && false ≡ false
    and_false true = refl
    and_false false = refl

-- Places that the test finds equal are equal.
pub place_exact : (p q : List Step) → same_place p q ≡ true → p ≡ q
place_exact [] [] h = refl
place_exact [] (y ∷ q) h = cc
place_exact (x ∷ p) [] h = cc
place_exact (x ∷ p) (y ∷ q) h = ap (λ z. z ∷ p) (step_exact x y (and_left (same_step x y) (same_place p q) h)) ∙ ap (λ r. y ∷ r) (place_exact p q (and_right (same_step x y) (same_place p q) h))
