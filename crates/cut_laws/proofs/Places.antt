-- Places are equal where the test says so, and pieces of a legal plan begin apart.
use Rattle.std.proofs.Common.{ℕ, ◌≡◌, ◌&&◌, nat_eq, List, [], ◌∷◌, Bool, true, false, refl, sym, ap, ◌∙◌, arith}
use Rattle.ld_model.proofs.Puts.{bytes_eq-exact, bytes_eq-refl}
use Rattle.ld_json.specs.declared.location.Step.{Step}
use Rattle.ld_json.specs.declared.location.Step.TheVariants.{Key, Item}
use Rattle.expand_model.specs.Scope.{in_item}
use Rattle.cut_model.specs.Pieces.{Piece, same_step, same_place, begins_at}
use Rattle.cut_model.specs.Legal.{IsNonEmpty, AreApart}
use Rattle.cut_laws.proofs.Lists.{append_nil}

pub and_left : (a b : Bool) → a && b ≡ true → a ≡ true
and_left true b h = refl
and_left false b h = cc

pub and_right : (a b : Bool) → a && b ≡ true → b ≡ true
and_right true b h = h
and_right false b h = cc

nat_eq-refl : (n : ℕ) → nat_eq n n ≡ true
nat_eq-refl n = grind arith

nat_eq-exact : (n m : ℕ) → nat_eq n m ≡ true → n ≡ m
nat_eq-exact n m h = grind (arith, h)

pub step_same : (x : Step) → same_step x x ≡ true
step_same (Key k) = bytes_eq-refl k
step_same (Item n) = nat_eq-refl n

pub step_exact : (x y : Step) → same_step x y ≡ true → x ≡ y
step_exact (Key k) (Key l) h = ap (λ t. Key t) (bytes_eq-exact k l h)
step_exact (Item n) (Item m) h = ap (λ t. Item t) (nat_eq-exact n m h)
step_exact (Key k) (Item m) h = cc
step_exact (Item n) (Key l) h = cc

place_same : (p : List Step) → same_place p p ≡ true
place_same [] = refl
place_same (x ∷ p) = ap (λ b. b && same_place p p) (step_same x) ∙ place_same p

place_exact : (p q : List Step) → same_place p q ≡ true → p ≡ q
place_exact [] [] h = refl
place_exact [] (y ∷ q) h = cc
place_exact (x ∷ p) [] h = cc
place_exact (x ∷ p) (y ∷ q) h = ap (λ z. z ∷ p) (step_exact x y (and_left (same_step x y) (same_place p q) h)) ∙ ap (λ r. y ∷ r) (place_exact p q (and_right (same_step x y) (same_place p q) h))

pub begins_itself : (x : Piece) → begins_at x.at.place x.from x ≡ true
begins_itself x = ap (λ b. b && nat_eq x.from x.from) (place_same x.at.place) ∙ nat_eq-refl x.from

pub begins_exact : (p : List Step) (n : ℕ) (x : Piece) → begins_at p n x ≡ true → (p ≡ x.at.place) × (n ≡ x.from)
begins_exact p n x h = (place_exact p x.at.place (and_left (same_place p x.at.place) (nat_eq n x.from) h), nat_eq-exact n x.from (and_right (same_place p x.at.place) (nat_eq n x.from) h))

-- Apart, they don't begin together.
pub apart_begin : (x y : Piece) → IsNonEmpty x → IsNonEmpty y → AreApart x y → begins_at y.at.place y.from x ≡ false
apart_begin x y some other apart = by (begins_at y.at.place y.from x) refl
  where
    by : (b : Bool) → begins_at y.at.place y.from x ≡ b → b ≡ false
    by false h = refl
    by true h =
        let is = begins_exact y.at.place y.from x h in
        let k = is.1 in
        absurd (apart.0 y.from (omega (arith, other), omega (arith, other)) (x.from, (omega (arith, some), omega (arith, some)), [], ap (λ n. in_item n y.at.place) is.1 ∙ ap (λ p. in_item x.from p) is.0 ∙ sym (append_nil (in_item x.from x.at.place))))
