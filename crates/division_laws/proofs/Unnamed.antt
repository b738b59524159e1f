-- The names that operations give to nodes without an id, in their order, and exchanges of names that lead to them.
use Rattle.std.proofs.Common.{◌≡◌, ℕ, zero, suc, List, [], ◌∷◌, ◌++◌, length, Bool, true, false, if◌then◌else◌, Some, refl, sym, ap, ◌∙◌}
use Rattle.std.specs.List.{slice_get}
use Rattle.std.proofs.lemmas.List.{append_assoc}
use Rattle.ld_model.specs.Label.{is_blank}
use Rattle.op_model.specs.Names.{Name, iri, source, fresh, name_of}
use Rattle.op_model.specs.Ops.{Op, ensure_node}
use Rattle.op_laws.specs.Exchanged.{Exchange, exchanged}

-- A fresh name, by its chunk and its number, is given where its node is made.
abbrev pub unnamed_by : Op → List (ℕ × ℕ)
unnamed_by (ensure_node g (fresh c k)) = (c, k) ∷ []
unnamed_by _ = []

abbrev pub unnamed_in : List Op → List (ℕ × ℕ)
unnamed_in [] = []
unnamed_in (o ∷ os) = unnamed_by o ++ unnamed_in os

pub unnamed_in-append : (os more : List Op) → unnamed_in (os ++ more) ≡ unnamed_in os ++ unnamed_in more
unnamed_in-append [] more = refl
unnamed_in-append (o ∷ os) more =
    ap (λ l. unnamed_by o ++ l) (unnamed_in-append os more)
    ∙ sym (append_assoc (unnamed_by o) (unnamed_in os) (unnamed_in more))

-- The exchange gives these names, in this order, to the nodes that the whole document numbers from 0.
abbrev pub LeadsTo : Exchange → List (ℕ × ℕ) → Type 0
LeadsTo other names = (k : ℕ) (name : ℕ × ℕ) → slice_get names k ≡ Some name → other 0 k ≡ name

-- What stands in a list, and what does with one more at its end.
module _ {X : Type 0} where
  get_in_front : (xs ys : List X) (k : ℕ) (x : X) → slice_get xs k ≡ Some x → slice_get (xs ++ ys) k ≡ Some x
  get_in_front [] ys k x is = absurd (cc)
  get_in_front (y ∷ xs) ys zero x is = is
  get_in_front (y ∷ xs) ys (suc k) x is = get_in_front xs ys k x is

  pub get_at_end : (xs : List X) (x : X) → slice_get (xs ++ x ∷ []) (length xs) ≡ Some x
  get_at_end [] x = refl
  get_at_end (y ∷ xs) x = get_at_end xs x

  pub data Stood (xs : List X) (x : X) (k : ℕ) (y : X) : Type 0 where
    in_front : slice_get xs k ≡ Some y → Stood xs x k y
    at_end : k ≡ length xs → y ≡ x → Stood xs x k y

  pub where_it_stood : (xs : List X) (x : X) (k : ℕ) (y : X) → slice_get (xs ++ x ∷ []) k ≡ Some y → Stood xs x k y
  where_it_stood [] x zero y is = at_end refl (cc)
  where_it_stood [] x (suc k) y is = absurd (cc)
  where_it_stood (z ∷ xs) x zero y is = in_front is
  where_it_stood (z ∷ xs) x (suc k) y is = one_on (where_it_stood xs x k y is)
    where
      one_on : Stood xs x k y → Stood (z ∷ xs) x (suc k) y
      one_on (in_front there) = in_front there
      one_on (at_end number same) = at_end (ap suc number) same

pub leads_to_front : (other : Exchange) (names more : List (ℕ × ℕ)) → LeadsTo other (names ++ more) → LeadsTo other names
leads_to_front other names more leads k name is = leads k name (get_in_front names more k name is)

-- No exchange changes the name that a text of the document is, and a node with an id isn't among the unnamed ones.
pub text_stays : (other : Exchange) (s : List ℕ) → exchanged other (name_of s) ≡ name_of s
text_stays other s = by_form (is_blank s)
  where
    by_form : (b : Bool) → exchanged other (if b then source s else iri s) ≡ (if b then source s else iri s)
    by_form true = refl
    by_form false = refl

pub named_by_text : (g : Name) (s : List ℕ) → unnamed_by (ensure_node g (name_of s)) ≡ []
named_by_text g s = by_form (is_blank s)
  where
    by_form : (b : Bool) → unnamed_by (ensure_node g (if b then source s else iri s)) ≡ []
    by_form true = refl
    by_form false = refl

pub never_empty : {X : Type 0} (xs : List X) (x : X) → xs ++ x ∷ [] ≡ [] → ⊥
never_empty [] x is = cc
never_empty (y ∷ xs) x is = cc
