-- A node that is made of what is said of it.
use Rattle.std.proofs.Common.{◌≡◌, ℕ, List, [], ◌∷◌, ◌++◌, Bool, true, false, cond, ◌&&◌, ◌||◌, not, if◌then◌else◌, Option, Some, None, is_some, refl, sym, ap, ◌∙◌}
use Rattle.std.specs.Str.{bytes_eq}
use Rattle.std.specs.List.{list_any, flat_map}
use Rattle.ld_model.specs.Tree.{Tree, same_tree}
use Rattle.ld_model.specs.NodeMap.{added}
use Rattle.ld_model.proofs.Truths.{both}
use Rattle.ld_model.proofs.Puts.{bytes_eq-exact}
use Rattle.ld_model.proofs.SameTree.{same_tree-exact}
use Rattle.node_model.specs.Maps.{at}
use Rattle.node_model.specs.NodeMap.{Node, new_node, node_or_new, entries_in, is_list_object, told, on_entries, with_type, with_index}
use Rattle.node_laws.specs.Stated.{Said, it_is, a_property, an_entry, a_type, an_index, types_said, indexes_said, is_of_property, entries_said, first, once_by, repeats_entry}
use Rattle.node_laws.proofs.OnceBy.{added_by, all_added, all_added-once, all_added-append}
use Rattle.node_laws.proofs.Changes.{entries_in-with_entries, property_stands}

-- The first index stays.
abbrev pub index_said : Option (List ℕ) → List ℕ → Node → Node
index_said None index n = with_index index n
index_said (Some earlier) index n = n

abbrev pub said_to : Said → Node → Node
said_to it_is n = n
said_to (a_property p) n = on_entries p (λ es. es) n
said_to (an_entry p e) n = on_entries p (told e) n
said_to (a_type name) n = with_type name n
said_to (an_index index) n = index_said n.index index n

abbrev pub all_said : List Said → Node → Node
all_said [] n = n
all_said (d ∷ ds) n = all_said ds (said_to d n)

-- The same of a node that may be missing: it is there once something is said of it.
abbrev pub told_of : List Said → Option Node → Option Node
told_of [] o = o
told_of (d ∷ ds) o = told_of ds (Some (said_to d (node_or_new o)))

pub told_of-append : (ds es : List Said) (o : Option Node) → told_of (ds ++ es) o ≡ told_of es (told_of ds o)
told_of-append [] es o = refl
told_of-append (d ∷ ds) es o = told_of-append ds es (Some (said_to d (node_or_new o)))

pub told_of-some : (ds : List Said) (n : Node) → told_of ds (Some n) ≡ Some (all_said ds n)
told_of-some [] n = refl
told_of-some (d ∷ ds) n = told_of-some ds (said_to d n)

-- An index changes neither types nor properties.
index_types : (o : Option (List ℕ)) (index : List ℕ) (n : Node) → (index_said o index n).types ≡ n.types
index_types None index n = refl
index_types (Some earlier) index n = refl

index_properties : (o : Option (List ℕ)) (index : List ℕ) (n : Node) → (index_said o index n).properties ≡ n.properties
index_properties None index n = refl
index_properties (Some earlier) index n = refl

types_step : (d : Said) (n : Node) → (said_to d n).types ≡ all_added bytes_eq n.types (types_said d)
types_step it_is n = refl
types_step (a_property p) n = refl
types_step (an_entry p e) n = refl
types_step (a_type name) n = refl
types_step (an_index index) n = index_types n.index index n

types_all : (ds : List Said) (n : Node) → (all_said ds n).types ≡ all_added bytes_eq n.types (flat_map types_said ds)
types_all [] n = refl
types_all (d ∷ ds) n =
    types_all ds (said_to d n)
    ∙ ap (λ held. all_added bytes_eq held (flat_map types_said ds)) (types_step d n)
    ∙ sym (all_added-append bytes_eq n.types (types_said d) (flat_map types_said ds))

pub types_are : (ds : List Said) → (all_said ds new_node).types ≡ once_by bytes_eq (flat_map types_said ds)
types_are ds = types_all ds new_node ∙ all_added-once bytes_eq bytes_eq-exact (flat_map types_said ds)

abbrev or_first : Option (List ℕ) → List (List ℕ) → Option (List ℕ)
or_first (Some index) later = Some index
or_first None later = first later

index_step : (o : Option (List ℕ)) (index : List ℕ) (later : List (List ℕ)) (n : Node) → n.index ≡ o → or_first (index_said o index n).index later ≡ or_first n.index (index ∷ later)
index_step None index later n is = ap (λ o. or_first o (index ∷ later)) (sym is)
index_step (Some earlier) index later n is = ap (λ o. or_first o later) is ∙ ap (λ o. or_first o (index ∷ later)) (sym is)

index_all : (ds : List Said) (n : Node) → (all_said ds n).index ≡ or_first n.index (flat_map indexes_said ds)
index_all [] n = alone n.index
  where
    alone : (o : Option (List ℕ)) → o ≡ or_first o []
    alone (Some index) = refl
    alone None = refl
index_all (it_is ∷ ds) n = index_all ds n
index_all (a_property p ∷ ds) n = index_all ds (said_to (a_property p) n)
index_all (an_entry p e ∷ ds) n = index_all ds (said_to (an_entry p e) n)
index_all (a_type name ∷ ds) n = index_all ds (said_to (a_type name) n)
index_all (an_index index ∷ ds) n = index_all ds (said_to (an_index index) n) ∙ index_step n.index index (flat_map indexes_said ds) n refl

pub index_is : (ds : List Said) → (all_said ds new_node).index ≡ first (flat_map indexes_said ds)
index_is ds = index_all ds new_node

module _ (p : List ℕ) where
  stands_step : (d : Said) (n : Node) → is_some (at p (said_to d n).properties) ≡ (is_of_property p d || is_some (at p n.properties))
  stands_step it_is n = refl
  stands_step (a_property q) n = property_stands p q (λ es. es) n.properties
  stands_step (an_entry q e) n = property_stands p q (told e) n.properties
  stands_step (a_type name) n = refl
  stands_step (an_index index) n = ap (λ ps. is_some (at p ps)) (index_properties n.index index n)

  stands_all : (ds : List Said) (n : Node) → is_some (at p (all_said ds n).properties) ≡ (list_any (is_of_property p) ds || is_some (at p n.properties))
  stands_all [] n = refl
  stands_all (d ∷ ds) n =
      stands_all ds (said_to d n)
      ∙ ap (λ b. list_any (is_of_property p) ds || b) (stands_step d n)
      ∙ turned (list_any (is_of_property p) ds) (is_of_property p d) (is_some (at p n.properties))
    where
      turned : (a b c : Bool) → (a || (b || c)) ≡ ((b || a) || c)
      turned true true c = refl
      turned true false c = refl
      turned false true c = refl
      turned false false c = refl

  pub property_is : (ds : List Said) → is_some (at p (all_said ds new_node).properties) ≡ list_any (is_of_property p) ds
  property_is ds = stands_all ds new_node ∙ alone (list_any (is_of_property p) ds)
    where
      alone : (b : Bool) → (b || false) ≡ b
      alone true = refl
      alone false = refl

  -- A list is added in any case, another entry unless it is there.
  repeats_none : (e : Tree) (es : List Tree) → is_list_object e ≡ true → list_any (repeats_entry e) es ≡ false
  repeats_none e [] list = refl
  repeats_none e (x ∷ es) list = ap (λ b. (not b && same_tree e x) || list_any (repeats_entry e) es) list ∙ repeats_none e es list

  repeats_equal : (e : Tree) (es : List Tree) → is_list_object e ≡ false → list_any (repeats_entry e) es ≡ list_any (same_tree e) es
  repeats_equal e [] other = refl
  repeats_equal e (x ∷ es) other = ap (λ b. (not b && same_tree e x) || list_any (repeats_entry e) es) other ∙ ap (λ b. same_tree e x || b) (repeats_equal e es other)

  told_is : (e : Tree) (es : List Tree) → told e es ≡ added_by repeats_entry e es
  unfolding added
  told_is e es = by_kind (is_list_object e) refl
    where
      by_kind : (b : Bool) → is_list_object e ≡ b → (if b then (es ++ e ∷ []) else (if list_any (same_tree e) es then es else (es ++ e ∷ []))) ≡ added_by repeats_entry e es
      by_kind true list = ap (λ b. if b then es else (es ++ e ∷ [])) (sym (repeats_none e es list))
      by_kind false other = ap (λ b. if b then es else (es ++ e ∷ [])) (sym (repeats_equal e es other))

  same_either : (b : Bool) (es : List Tree) → cond b es es ≡ es
  same_either true es = refl
  same_either false es = refl

  entry_step : (b : Bool) (e : Tree) (es : List Tree) → cond b (told e es) es ≡ all_added repeats_entry es (if b then (e ∷ []) else [])
  entry_step true e es = told_is e es
  entry_step false e es = refl

  entries_step : (d : Said) (n : Node) → entries_in p (said_to d n).properties ≡ all_added repeats_entry (entries_in p n.properties) (entries_said p d)
  entries_step it_is n = refl
  entries_step (a_property q) n = entries_in-with_entries p q (λ es. es) n.properties ∙ same_either (bytes_eq p q) (entries_in p n.properties)
  entries_step (an_entry q e) n = entries_in-with_entries p q (told e) n.properties ∙ entry_step (bytes_eq p q) e (entries_in p n.properties)
  entries_step (a_type name) n = refl
  entries_step (an_index index) n = ap (entries_in p) (index_properties n.index index n)

  entries_all : (ds : List Said) (n : Node) → entries_in p (all_said ds n).properties ≡ all_added repeats_entry (entries_in p n.properties) (flat_map (entries_said p) ds)
  entries_all [] n = refl
  entries_all (d ∷ ds) n =
      entries_all ds (said_to d n)
      ∙ ap (λ held. all_added repeats_entry held (flat_map (entries_said p) ds)) (entries_step d n)
      ∙ sym (all_added-append repeats_entry (entries_in p n.properties) (entries_said p d) (flat_map (entries_said p) ds))

  repeats_exact : (x y : Tree) → repeats_entry x y ≡ true → x ≡ y
  repeats_exact x y same = same_tree-exact x y (both (not (is_list_object x)) (same_tree x y) same).1

  pub entries_are : (ds : List Said) → entries_in p (all_said ds new_node).properties ≡ once_by repeats_entry (flat_map (entries_said p) ds)
  entries_are ds = entries_all ds new_node ∙ all_added-once repeats_entry repeats_exact (flat_map (entries_said p) ds)
