-- Names and entries are told apart by labels.
use Rattle.std.proofs.Common.{◌≡◌, ℕ, suc, ◌≤◌, ◌<◌, ◌^◌, arith, List, [], ◌∷◌, length, Bool, true, false, ◌||◌, Some, refl, sym, ap, ap₂, ◌∙◌, subst}
use Rattle.std.specs.Prelude.{codes}
use Rattle.std.specs.List.{list_any}
use Rattle.std.specs.Fmt.{decimal}
use Rattle.std.proofs.lemmas.Fmt.{decimal_injective}
use Rattle.std.proofs.lemmas.List.{append_cancel_left}
use Rattle.ld_model.specs.Tree.{Tree, array, object, tree_list, tree_list-trees_of, member}
use Rattle.ld_model.specs.Label.{is_blank, label_of}
use Rattle.ld_model.specs.NodeMap.{reference as reference_to, target}
use Rattle.node_model.specs.NodeMap.{list_object}
use Rattle.op_model.specs.Names.{Name, iri, source, fresh, same_name}
use Rattle.op_model.specs.Ops.{Entry, value, reference, list, Entries, no_entries, entry}
use Rattle.op_model.specs.Running.{place_of, label_in, entry_in, entries_in}
use Rattle.op_laws.specs.Own.{HasOwn, is_value, EntryHasOwn, EntriesHaveOwn}
use Rattle.op_laws.specs.Laws.{NamesAreToldApart, EntriesAreToldApart}
use Rattle.op_laws.proofs.SameName.{same_name-exact}

place_is_less : (n : Name) (names : List Name) → list_any (same_name n) names ≡ true → place_of n names < length names
place_is_less n [] there = absurd (cc)
place_is_less n (m ∷ ms) there = by_test (same_name n m) refl there (place_is_less n ms)
  where
    by_test : (b : Bool) → same_name n m ≡ b → (same_name n m || list_any (same_name n) ms) ≡ true → (list_any (same_name n) ms ≡ true → place_of n ms < length ms) → place_of n (m ∷ ms) < length (m ∷ ms)
    by_test true same there rest = rw same (omega arith)
    by_test false apart there rest = let less = rest (rw apart at there) in rw apart (omega arith)

one_place : (a b : Name) (names : List Name) → list_any (same_name a) names ≡ true → list_any (same_name b) names ≡ true → place_of a names ≡ place_of b names → a ≡ b
one_place a b [] first second same = absurd (cc)
one_place a b (m ∷ ms) first second same = by_tests (same_name a m) (same_name b m) refl refl first second same (one_place a b ms)
  where
    by_tests : (s t : Bool) → same_name a m ≡ s → same_name b m ≡ t → (same_name a m || list_any (same_name a) ms) ≡ true → (same_name b m || list_any (same_name b) ms) ≡ true → place_of a (m ∷ ms) ≡ place_of b (m ∷ ms)
        → (list_any (same_name a) ms ≡ true → list_any (same_name b) ms ≡ true → place_of a ms ≡ place_of b ms → a ≡ b) → a ≡ b
    by_tests true true s t first second same rest = same_name-exact a m s ∙ sym (same_name-exact b m t)
    by_tests true false s t first second same rest = absurd (let e : 0 ≡ suc (place_of b ms) = rw (s, t) at same in omega arith)
    by_tests false true s t first second same rest = absurd (let e : suc (place_of a ms) ≡ 0 = rw (s, t) at same in omega arith)
    by_tests false false s t first second same rest =
        let e : suc (place_of a ms) ≡ suc (place_of b ms) = rw (s, t) at same in
        rest (rw s at first) (rw t at second) (omega arith)

one_number : (m n : ℕ) → m < 2 ^ 64 → n < 2 ^ 64 → label_of m ≡ label_of n → m ≡ n
one_number m n first second same = decimal_injective m n first second (append_cancel_left (codes "_:b") (decimal m) (decimal n) same)

no_label : (s : List ℕ) (n : ℕ) → is_blank s ≡ false → s ≡ label_of n → ⊥
no_label s n apart same = absurd (let not_blank : is_blank (label_of n) ≡ false = subst (λ s. is_blank s ≡ false) same apart in let blank : is_blank (label_of n) ≡ true = refl in cc)

module _ (names : List Name) (few : length names ≤ 2 ^ 64) where
  one_label : (a b : Name) → list_any (same_name a) names ≡ true → list_any (same_name b) names ≡ true → label_of (place_of a names) ≡ label_of (place_of b names) → a ≡ b
  one_label a b first second same =
      let less_a = place_is_less a names first in
      let less_b = place_is_less b names second in
      one_place a b names first second (one_number (place_of a names) (place_of b names) (omega arith) (omega arith) same)

  pub one_name : (a b : Name) → HasOwn names a → HasOwn names b → label_in names a ≡ label_in names b → a ≡ b
  one_name (iri s) (iri t) first second same = ap iri same
  one_name (iri s) (source t) first second same = absurd (no_label s (place_of (source t) names) first same)
  one_name (iri s) (fresh c k) first second same = absurd (no_label s (place_of (fresh c k) names) first same)
  one_name (source s) (iri t) first second same = absurd (no_label t (place_of (source s) names) second (sym same))
  one_name (fresh c k) (iri t) first second same = absurd (no_label t (place_of (fresh c k) names) second (sym same))
  one_name (source s) (source t) first second same = one_label (source s) (source t) first second same
  one_name (source s) (fresh c k) first second same = one_label (source s) (fresh c k) first second same
  one_name (fresh c k) (source t) first second same = one_label (fresh c k) (source t) first second same
  one_name (fresh c k) (fresh d m) first second same = one_label (fresh c k) (fresh d m) first second same

  -- A reference or a list is no value object.
  no_reference : (t : Tree) (id : List ℕ) → is_value t ≡ true → t ≡ reference_to id → ⊥
  no_reference t id is same = absurd (let value_too : is_value (reference_to id) ≡ true = subst (λ t. is_value t ≡ true) same is in let none : is_value (reference_to id) ≡ false = refl in cc)

  no_list : (t : Tree) (ts : List Tree) → is_value t ≡ true → t ≡ list_object ts → ⊥
  no_list t ts is same = absurd (let value_too : is_value (list_object ts) ≡ true = subst (λ t. is_value t ≡ true) same is in let none : is_value (list_object ts) ≡ false = refl in cc)

  -- A reference is no list.
  no_list_too : (id : List ℕ) (ts : List Tree) → reference_to id ≡ list_object ts → ⊥
  no_list_too id ts same = absurd (let found : target (reference_to id) ≡ target (list_object ts) = ap target same in cc)

  one_target : (a b : List ℕ) → reference_to a ≡ reference_to b → a ≡ b
  one_target a b same = let found : Some a ≡ Some b = ap target same in cc

  -- The items of a list object.
  abbrev items_of : Tree → List Tree
  items_of (object (member k (array ts) ms)) = tree_list ts
  items_of _ = []

  one_list : (ts us : List Tree) → list_object ts ≡ list_object us → ts ≡ us
  one_list ts us same = sym (tree_list-trees_of ts) ∙ ap items_of same ∙ tree_list-trees_of us

  mutual
    pub one_entry : (e f : Entry) → EntryHasOwn names e → EntryHasOwn names f → entry_in names e ≡ entry_in names f → e ≡ f
    one_entry (value t) (value u) first second same = ap value same
    one_entry (value t) (reference n) first second same = absurd (no_reference t (label_in names n) first same)
    one_entry (value t) (list es) first second same = absurd (no_list t (entries_in names es) first same)
    one_entry (reference n) (value u) first second same = absurd (no_reference u (label_in names n) second (sym same))
    one_entry (reference n) (reference m) first second same = ap reference (one_name n m first second (one_target (label_in names n) (label_in names m) same))
    one_entry (reference n) (list es) first second same = absurd (no_list_too (label_in names n) (entries_in names es) same)
    one_entry (list es) (value u) first second same = absurd (no_list u (entries_in names es) second (sym same))
    one_entry (list es) (reference n) first second same = absurd (no_list_too (label_in names n) (entries_in names es) (sym same))
    one_entry (list es) (list fs) first second same = ap list (same_entries es fs first second (one_list (entries_in names es) (entries_in names fs) same))

    same_entries : (es fs : Entries) → EntriesHaveOwn names es → EntriesHaveOwn names fs → entries_in names es ≡ entries_in names fs → es ≡ fs
    same_entries no_entries no_entries first second same = refl
    same_entries no_entries (entry f fs) first second same = absurd (cc)
    same_entries (entry e es) no_entries first second same = absurd (cc)
    same_entries (entry e es) (entry f fs) first second same =
        let head : entry_in names e ≡ entry_in names f = cc in
        let tail : entries_in names es ≡ entries_in names fs = cc in
        ap₂ entry (one_entry e f first.0 second.0 head) (same_entries es fs first.1 second.1 tail)

pub names_are_told_apart : NamesAreToldApart
names_are_told_apart names a b few first second same = one_name names few a b first second same

pub entries_are_told_apart : EntriesAreToldApart
entries_are_told_apart names e f few first second same = one_entry names few e f first second same
