-- Types and entries are added alike by names and by labels.
use Rattle.std.proofs.Common.{◌≡◌, ◌≤◌, ◌^◌, List, [], ◌∷◌, ◌++◌, length, Bool, true, false, ◌||◌, if◌then◌else◌, refl, sym, ap, ap₂, ◌∙◌, subst}
use Rattle.std.specs.Prelude.{map as each}
use Rattle.std.specs.Bool.{one_answer}
use Rattle.std.specs.Str.{bytes_eq}
use Rattle.std.specs.List.{list_any, AllByRecursion}
use Rattle.ld_model.specs.Tree.{Tree, array, object, no_members, member, same_tree}
use Rattle.ld_model.specs.NodeMap.{added}
use Rattle.ld_model.proofs.Puts.{bytes_eq-refl, bytes_eq-exact}
use Rattle.ld_model.proofs.SameTree.{same_tree-exact, same_tree-from, same_tree-refl}
use Rattle.node_model.specs.Keys.{list_key}
use Rattle.node_model.specs.NodeMap.{is_list_object, told, type_told}
use Rattle.op_model.specs.Names.{Name, same_name}
use Rattle.op_model.specs.Ops.{Entry, value, reference, list, same_entry}
use Rattle.op_model.specs.Running.{with_name, label_in, entry_in}
use Rattle.op_laws.specs.Words.{with_entry}
use Rattle.op_laws.specs.Own.{HasOwn, is_value, EntryHasOwn}
use Rattle.op_laws.specs.Laws.{AddingIsAlike}
use Rattle.op_laws.proofs.SameName.{same_name-exact, same_name-refl}
use Rattle.op_laws.proofs.Apart.{one_name, one_entry}

each_with_last : {X Y : Type 0} (f : X → Y) (xs : List X) (x : X) → each f (xs ++ x ∷ []) ≡ each f xs ++ f x ∷ []
each_with_last f [] x = refl
each_with_last f (y ∷ xs) x = ap (λ l. f y ∷ l) (each_with_last f xs x)

-- Unless the answer is yes, one more at the end.
pub last_alike : {X Y : Type 0} (f : X → Y) (b c : Bool) (xs : List X) (x : X) → b ≡ c → (if b then each f xs else (each f xs ++ f x ∷ [])) ≡ each f (if c then xs else (xs ++ x ∷ []))
last_alike f true true xs x same = refl
last_alike f false false xs x same = sym (each_with_last f xs x)
last_alike f true false xs x same = absurd (cc)
last_alike f false true xs x same = absurd (cc)

-- A value object is no list object.
no_list_object : (t : Tree) → is_value t ≡ true → is_list_object t ≡ false
no_list_object (object (member k (array ts) no_members)) is = by_test (bytes_eq k list_key) refl
  where
    by_test : (b : Bool) → bytes_eq k list_key ≡ b → b ≡ false
    by_test true same = absurd (let value_too : is_value (object (member list_key (array ts) no_members)) ≡ true = subst (λ k. is_value (object (member k (array ts) no_members)) ≡ true) (bytes_eq-exact k list_key same) is in cc)
    by_test false apart = refl
no_list_object _ is = refl

same_entry-exact : (e f : Entry) → same_entry e f ≡ true → e ≡ f
same_entry-exact (value a) (value b) same = ap value (same_tree-exact a b same)
same_entry-exact (reference a) (reference b) same = ap reference (same_name-exact a b same)
same_entry-exact _ _ same = absurd (cc)

module _ (names : List Name) (few : length names ≤ 2 ^ 64) where
  pub name_test : (a b : Name) → HasOwn names a → HasOwn names b → bytes_eq (label_in names a) (label_in names b) ≡ same_name a b
  name_test a b first second =
      one_answer {P = a ≡ b} (bytes_eq (label_in names a) (label_in names b)) (same_name a b)
      (λ same. one_name names few a b first second (bytes_eq-exact (label_in names a) (label_in names b) same), λ e. subst (λ x. bytes_eq (label_in names a) (label_in names x) ≡ true) e (bytes_eq-refl (label_in names a)))
      (same_name-exact a b, λ e. subst (λ x. same_name a x ≡ true) e (same_name-refl a))

  any_name : (t : Name) (ts : List Name) → HasOwn names t → AllByRecursion (HasOwn names) ts → list_any (bytes_eq (label_in names t)) (each (label_in names) ts) ≡ list_any (same_name t) ts
  any_name t [] first all = refl
  any_name t (x ∷ ts) first all = ap₂ ◌||◌ (name_test t x first all.0) (any_name t ts first all.1)

  types_alike : (t : Name) (ts : List Name) → HasOwn names t → AllByRecursion (HasOwn names) ts → type_told (label_in names t) (each (label_in names) ts) ≡ each (label_in names) (with_name ts t)
  unfolding with_name
  types_alike t ts first all = last_alike (label_in names) (list_any (bytes_eq (label_in names t)) (each (label_in names) ts)) (list_any (same_name t) ts) ts t (any_name t ts first all)

  -- For an entry that is the same as itself, as a value and a reference are.
  entry_test : (e f : Entry) → same_entry e e ≡ true → EntryHasOwn names e → EntryHasOwn names f → same_tree (entry_in names e) (entry_in names f) ≡ same_entry e f
  entry_test e f itself first second =
      one_answer {P = e ≡ f} (same_tree (entry_in names e) (entry_in names f)) (same_entry e f)
      (λ same. one_entry names few e f first second (same_tree-exact (entry_in names e) (entry_in names f) same), λ is. same_tree-from (entry_in names e) (entry_in names f) (ap (entry_in names) is))
      (same_entry-exact e f, λ is. subst (λ x. same_entry e x ≡ true) is itself)

  any_entry : (e : Entry) (es : List Entry) → same_entry e e ≡ true → EntryHasOwn names e → AllByRecursion (EntryHasOwn names) es → list_any (same_tree (entry_in names e)) (each (entry_in names) es) ≡ list_any (same_entry e) es
  any_entry e [] itself first all = refl
  any_entry e (f ∷ es) itself first all = ap₂ ◌||◌ (entry_test e f itself first all.0) (any_entry e es itself first all.1)

  added_alike : (e : Entry) (es : List Entry) → same_entry e e ≡ true → is_list_object (entry_in names e) ≡ false → EntryHasOwn names e → AllByRecursion (EntryHasOwn names) es
      → told (entry_in names e) (each (entry_in names) es) ≡ each (entry_in names) (with_entry e es)
  unfolding added
  added_alike e es itself no_list first all =
      ap (λ b. if b then (each (entry_in names) es ++ entry_in names e ∷ []) else added (entry_in names e) (each (entry_in names) es)) no_list
      ∙ last_alike (entry_in names) (list_any (same_tree (entry_in names e)) (each (entry_in names) es)) (list_any (same_entry e) es) es e (any_entry e es itself first all)

  entries_alike : (e : Entry) (es : List Entry) → EntryHasOwn names e → AllByRecursion (EntryHasOwn names) es → told (entry_in names e) (each (entry_in names) es) ≡ each (entry_in names) (with_entry e es)
  entries_alike (value t) es first all = added_alike (value t) es (same_tree-refl t) (no_list_object t first) first all
  entries_alike (reference n) es first all = added_alike (reference n) es (same_name-refl n) refl first all
  entries_alike (list items) es first all = last_alike (entry_in names) false (list_any (same_entry (list items)) es) es (list items) (sym (none es))
    where
      none : (es : List Entry) → list_any (same_entry (list items)) es ≡ false
      none [] = refl
      none (e ∷ es) = none es

pub adding_is_alike : AddingIsAlike
adding_is_alike names few = (types_alike names few, entries_alike names few)
