-- How the logic stores names, entries and operations: each as one code, and different ones as different codes.
use Rattle.std.specs.Prelude.{ℕ, zero, suc, ◌≡◌, List, refl}
use Rattle.std.specs.Coded.{Coded, code_by, coded×, coded⊎, coded_list, coded_ℕ}
use mathlib.Core.Path.{sym, ap}
use mathlib.Core.Logic.{◌⊎◌, inl, inr}
use native.Mathlib.Nat.{suc-ne-zero}
use base.Stored.{Gv, gnil, gnum, gcons, num}
use Rattle.ld_model.specs.TreeCode.{tree_code}
use Rattle.op_model.specs.Names.{Name, iri, source, fresh}
use Rattle.op_model.specs.Ops.{Entry, value, reference, list, Entries, no_entries, entry, Op, use_label, ensure_graph, ensure_node, ensure_property, add_entry, append_list, add_type, set_index}

abbrev Names : Type 0
Names = List ℕ ⊎ (List ℕ ⊎ (ℕ × ℕ))

abbrev kind_of_name : Name → Names
kind_of_name (iri s) = inl s
kind_of_name (source s) = inr (inl s)
kind_of_name (fresh chunk number) = inr (inr (chunk, number))

abbrev name_of_kind : Names → Name
name_of_kind (inl s) = iri s
name_of_kind (inr (inl s)) = source s
name_of_kind (inr (inr n)) = fresh n.0 n.1

name_of_its_kind : (n : Name) → name_of_kind (kind_of_name n) ≡ n
name_of_its_kind (iri s) = refl
name_of_its_kind (source s) = refl
name_of_its_kind (fresh chunk number) = refl

pub name_code : Coded Name
name_code = code_by Names (coded⊎ (coded_list coded_ℕ) (coded⊎ (coded_list coded_ℕ) (coded× coded_ℕ coded_ℕ))) kind_of_name name_of_kind name_of_its_kind

-- The two sides of a code.
abbrev left : Gv → Gv
left gnil = gnil
left (gnum n) = gnil
left (gcons a b) = a

abbrev right : Gv → Gv
right gnil = gnil
right (gnum n) = gnil
right (gcons a b) = b

-- Which of the codes it is, by the number on its left side.
abbrev kind : Gv → ℕ
kind g = num (left g)

abbrev is_pair : Gv → ℕ
is_pair gnil = 0
is_pair (gnum n) = 0
is_pair (gcons a b) = 1

abbrev mutual
  code_of_entry : Entry → Gv
  code_of_entry (value t) = gcons (gnum 0) (tree_code.code t)
  code_of_entry (reference n) = gcons (gnum 1) (name_code.code n)
  code_of_entry (list es) = gcons (gnum 2) (code_of_entries es)

  code_of_entries : Entries → Gv
  code_of_entries no_entries = gnil
  code_of_entries (entry e es) = gcons (code_of_entry e) (code_of_entries es)

abbrev before_two : ℕ → ℕ
before_two zero = 0
before_two (suc n) = n

mutual
  one_entry : (e f : Entry) → code_of_entry e ≡ code_of_entry f → e ≡ f
  one_entry (value s) (value t) p = ap value (tree_code.inj s t (ap right p))
  one_entry (reference m) (reference n) p = ap reference (name_code.inj m n (ap right p))
  one_entry (list es) (list fs) p = ap list (one_list es fs (ap right p))
  one_entry (value s) (reference n) p = absurd (suc-ne-zero 0 (sym (ap kind p)))
  one_entry (value s) (list fs) p = absurd (suc-ne-zero 1 (sym (ap kind p)))
  one_entry (reference m) (value t) p = absurd (suc-ne-zero 0 (ap kind p))
  one_entry (reference m) (list fs) p = absurd (suc-ne-zero 0 (sym (ap (λ g. before_two (kind g)) p)))
  one_entry (list es) (value t) p = absurd (suc-ne-zero 1 (ap kind p))
  one_entry (list es) (reference n) p = absurd (suc-ne-zero 0 (ap (λ g. before_two (kind g)) p))

  one_list : (es fs : Entries) → code_of_entries es ≡ code_of_entries fs → es ≡ fs
  one_list no_entries no_entries p = refl
  one_list (entry e es) (entry f fs) p = λ i. entry (one_entry e f (ap left p) i) (one_list es fs (ap right p) i)
  one_list no_entries (entry f fs) p = absurd (suc-ne-zero 0 (sym (ap is_pair p)))
  one_list (entry e es) no_entries p = absurd (suc-ne-zero 0 (ap is_pair p))

pub entry_code : Coded Entry
entry_code = record { code = code_of_entry; inj = one_entry }

entries_code : Coded Entries
entries_code = record { code = code_of_entries; inj = one_list }

-- An operation by its kind, with its names, its entry or entries, and its text.
abbrev Node : Type 0
Node = Name × Name

abbrev Property : Type 0
Property = Name × Node

abbrev Kinds : Type 0
Kinds = (Name ⊎ Name) ⊎ ((Node ⊎ Property) ⊎ (((Property × Entry) ⊎ (Property × Entries)) ⊎ (Property ⊎ (Node × List ℕ))))

abbrev kind_of_op : Op → Kinds
kind_of_op (use_label n) = inl (inl n)
kind_of_op (ensure_graph g) = inl (inr g)
kind_of_op (ensure_node g n) = inr (inl (inl (g, n)))
kind_of_op (ensure_property g n p) = inr (inl (inr (p, (g, n))))
kind_of_op (add_entry g n p e) = inr (inr (inl (inl ((p, (g, n)), e))))
kind_of_op (append_list g n p es) = inr (inr (inl (inr ((p, (g, n)), es))))
kind_of_op (add_type g n t) = inr (inr (inr (inl (t, (g, n)))))
kind_of_op (set_index g n i) = inr (inr (inr (inr ((g, n), i))))

abbrev op_of_kind : Kinds → Op
op_of_kind (inl (inl n)) = use_label n
op_of_kind (inl (inr g)) = ensure_graph g
op_of_kind (inr (inl (inl k))) = ensure_node k.0 k.1
op_of_kind (inr (inl (inr k))) = ensure_property k.1.0 k.1.1 k.0
op_of_kind (inr (inr (inl (inl k)))) = add_entry k.0.1.0 k.0.1.1 k.0.0 k.1
op_of_kind (inr (inr (inl (inr k)))) = append_list k.0.1.0 k.0.1.1 k.0.0 k.1
op_of_kind (inr (inr (inr (inl k)))) = add_type k.1.0 k.1.1 k.0
op_of_kind (inr (inr (inr (inr k)))) = set_index k.0.0 k.0.1 k.1

op_of_its_kind : (o : Op) → op_of_kind (kind_of_op o) ≡ o
op_of_its_kind (use_label n) = refl
op_of_its_kind (ensure_graph g) = refl
op_of_its_kind (ensure_node g n) = refl
op_of_its_kind (ensure_property g n p) = refl
op_of_its_kind (add_entry g n p e) = refl
op_of_its_kind (append_list g n p es) = refl
op_of_its_kind (add_type g n t) = refl
op_of_its_kind (set_index g n i) = refl

abbrev node_code : Coded Node
node_code = coded× name_code name_code

abbrev property_code : Coded Property
property_code = coded× name_code node_code

pub op_code : Coded Op
op_code = code_by Kinds
    (coded⊎ (coded⊎ name_code name_code)
    (coded⊎ (coded⊎ node_code property_code)
    (coded⊎ (coded⊎ (coded× property_code entry_code) (coded× property_code entries_code))
    (coded⊎ property_code (coded× node_code (coded_list coded_ℕ))))))
    kind_of_op op_of_kind op_of_its_kind
