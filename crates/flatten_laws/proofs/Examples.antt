-- What small documents state, computed from the definitions.
use Rattle.std.proofs.Common.{◌≡◌, ℕ, List, [], ◌∷◌, refl, true, false, Some, None}
use Rattle.std.specs.Prelude.{codes}
use Rattle.ld_model.specs.Tree.{Tree, text, array, object, trees_of, members_of, put}
use Rattle.ld_model.specs.NodeMap.{added, changed, with_entries, with_node}
use Rattle.flatten_laws.specs.Statements.{id_of, statements, states, gives, once}
use Rattle.flatten_laws.specs.Laws.{flattened}

abbrev reference : List ℕ → Tree
reference id = object (members_of ((codes "@id", text id) ∷ []))

abbrev value : List ℕ → Tree
value s = object (members_of ((codes "@value", text s) ∷ []))

abbrev node : List ℕ → List ℕ → List Tree → Tree
node id property entries = object (members_of ((codes "@id", text id) ∷ (property, array (trees_of entries)) ∷ []))

abbrev a : List ℕ
a = codes "http://e/a"

abbrev b : List ℕ
b = codes "http://e/b"

abbrev p : List ℕ
p = codes "http://e/p"

abbrev v : Tree
v = value (codes "v")

abbrev u : Tree
u = value (codes "u")

-- Two items of one node, and one of another.
abbrev document : List Tree
document = node a p (v ∷ u ∷ []) ∷ node b p (reference a ∷ []) ∷ node a p (reference b ∷ v ∷ []) ∷ []

an_id_is_read : id_of (node a p []) ≡ Some a
an_id_is_read = refl

no_id_is_read_of_a_value : id_of v ≡ None
no_id_is_read_of_a_value = refl

items_of_one_node_state_together : statements a p document ≡ v ∷ u ∷ reference b ∷ v ∷ []
items_of_one_node_state_together = refl

the_first_of_equal_entries_stays : once (v ∷ u ∷ reference b ∷ v ∷ []) ≡ v ∷ u ∷ reference b ∷ []
the_first_of_equal_entries_stays = refl

the_outcome_states_each_once : statements a p (flattened document) ≡ v ∷ u ∷ reference b ∷ []
unfolding put added changed with_entries with_node
the_outcome_states_each_once = refl

an_entry_is_stated : states a p u document ≡ true
an_entry_is_stated = refl

not_at_another_node : states b p u document ≡ false
not_at_another_node = refl

not_under_another_property : states a b u document ≡ false
not_under_another_property = refl

a_reference_is_no_equal_value : states a p (value a) (node a p (reference a ∷ []) ∷ []) ≡ false
a_reference_is_no_equal_value = refl

an_empty_array_gives_a_property : gives a p (node a p [] ∷ []) ≡ true
an_empty_array_gives_a_property = refl

an_empty_array_states_nothing : statements a p (node a p [] ∷ []) ≡ []
an_empty_array_states_nothing = refl
