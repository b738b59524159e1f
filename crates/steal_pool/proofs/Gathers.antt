-- What the slots and the seats have, as workers are added.
use Rattle.std.proofs.Common.{◌≡◌, ℕ, ◌<◌, ◌⊎◌, List, [], ◌∷◌, ◌++◌, length, set, refl, sym, ap, ◌∙◌, subst, ⊎_elim, Some, None, Option, All, arith}
use Rattle.std.specs.Prelude.{Contains, replicate}
use Rattle.std.proofs.lemmas.List.{length-set, length-replicate, append_assoc, append-nil}
use Rattle.std.proofs.lemmas.List.Elements.{All-head, All-rest, All-same, All-contains_itself}
use Rattle.steal_pool.specs.Gathers.{filled, all_filled, seats_of, IsInside, IsFailureOf}
use Rattle.steal_pool.specs.declared.worker.Worker.{Worker}

pub head_inside : {A : Type 0} (n : ℕ) (xs rest : List (ℕ × A)) (p : ℕ) (a : A) → xs ≡ (p, a) ∷ rest → All (λ x. x.0 < n) xs → p < n
head_inside n xs rest p a is all = All-head (λ x. x.0 < n) (p, a) rest (All-same (λ x. x.0 < n) ((p, a) ∷ rest) xs (sym is) all)

-- one answer is put into its slot
pub turn : {A : Type 0} (slots : List (Option A)) (xs rest : List (ℕ × A)) (p : ℕ) (a : A) → xs ≡ (p, a) ∷ rest → All (λ x. x.0 < length slots) xs
    → (filled (set slots p (Some a)) rest ≡ filled slots xs) × All (λ x. x.0 < length (set slots p (Some a))) rest
turn slots xs rest p a is all = (
  ap (filled slots) (sym is),
  subst (λ (n : ℕ). All (λ x. x.0 < n) rest) (sym (length-set slots p (Some a))) (All-rest (λ x. x.0 < length slots) (p, a) rest xs is all),
)

pub filled_long : {A : Type 0} (slots : List (Option A)) (xs : List (ℕ × A)) → length (filled slots xs) ≡ length slots
filled_long slots [] = refl
filled_long slots (x ∷ xs) = filled_long (set slots x.0 (Some x.1)) xs ∙ length-set slots x.0 (Some x.1)

module _ {P A E S : Type 0} (pieces : ℕ) (ws : List (Worker P A E S)) where
  -- what the loop over the workers keeps
  pub record Gathering (seats : List S) (slots : List (Option A)) (failure : Option (ℕ × E)) (left : List (Worker P A E S)) : Type 0 where
    pub seats_is : seats ++ seats_of left ≡ seats_of ws
    pub slots_is : all_filled slots left ≡ all_filled (replicate pieces None) ws
    pub long : length slots ≡ pieces
    pub failure_of : IsFailureOf ws failure
    pub inside : All (IsInside pieces) left
    pub members : All (Contains ws) left

  pub starts : (seats : List S) (slots : List (Option A)) (left : List (Worker P A E S)) → seats ≡ [] → slots ≡ replicate pieces None → left ≡ ws → All (IsInside pieces) ws → Gathering seats slots None left
  starts seats slots left none empty all inside = record {
    seats_is = ap (λ (l : List S). l ++ seats_of left) none ∙ ap seats_of all;
    slots_is = ap (λ (l : List (Option A)). all_filled l left) empty ∙ ap (all_filled (replicate pieces None)) all;
    long = ap length empty ∙ length-replicate pieces None;
    failure_of = tt;
    inside = All-same (IsInside pieces) left ws all inside;
    members = All-same (Contains ws) left ws all (All-contains_itself ws);
  }

  pub adds : (seats seats' : List S) (slots slots' : List (Option A)) (failure failure' : Option (ℕ × E)) (w : Worker P A E S) (left rest : List (Worker P A E S))
      → left ≡ w ∷ rest → seats' ≡ seats ++ w.seat ∷ [] → slots' ≡ filled slots w.answers.items → (failure' ≡ failure) ⊎ (failure' ≡ w.failure) → Gathering seats slots failure left → Gathering seats' slots' failure' rest
  adds seats seats' slots slots' failure failure' w left rest is seats_are slots_are one g = record {
    seats_is = ap (λ (l : List S). l ++ seats_of rest) seats_are ∙ (append_assoc seats (w.seat ∷ []) (seats_of rest) ∙ (ap (λ (l : List (Worker P A E S)). seats ++ seats_of l) (sym is) ∙ g.seats_is));
    slots_is = ap (λ (l : List (Option A)). all_filled l rest) slots_are ∙ (ap (all_filled slots) (sym is) ∙ g.slots_is);
    long = ap length slots_are ∙ (filled_long slots w.answers.items ∙ g.long);
    failure_of = ⊎_elim
        (λ (e : failure' ≡ failure). subst (IsFailureOf ws) (sym e) g.failure_of)
        (λ (e : failure' ≡ w.failure). subst (IsFailureOf ws) (sym e) (its_own w.failure refl))
        one;
    inside = All-rest (IsInside pieces) w rest left is g.inside;
    members = All-rest (Contains ws) w rest left is g.members;
  }
    where
      its_own : (f : Option (ℕ × E)) → w.failure ≡ f → IsFailureOf ws f
      its_own None e = tt
      its_own (Some x) e = (w, All-head (Contains ws) w rest (All-same (Contains ws) (w ∷ rest) left (sym is) g.members), e)

  pub head_is_inside : (left rest : List (Worker P A E S)) (w : Worker P A E S) (n : ℕ) → left ≡ w ∷ rest → n ≡ pieces → All (IsInside pieces) left → All (λ x. x.0 < n) w.answers.items
  head_is_inside left rest w n is same all = subst (λ (m : ℕ). All (λ x. x.0 < m) w.answers.items) (sym same) (All-head (IsInside pieces) w rest (All-same (IsInside pieces) (w ∷ rest) left (sym is) all))

  pub all_seats : (seats : List S) (left : List (Worker P A E S)) → seats ++ seats_of left ≡ seats_of ws → length left ≡ 0 → seats ≡ seats_of ws
  all_seats seats [] is none = sym (append-nil seats) ∙ is
  all_seats seats (w ∷ rest) is none = absurd (omega arith)
