-- Small documents with what they give, computed from the definitions.
use Rattle.std.proofs.Common.{◌≡◌, ℕ, List, [], ◌∷◌, refl, true, false}
use Rattle.std.specs.Prelude.{codes}
use Rattle.std.specs.Fmt.{digits}
use Rattle.json.specs.Print.{escape_byte}
use Rattle.ld_model.specs.Tree.{Tree, one_one, text, array, object, trees_of, members_of, put}
use Rattle.ld_model.specs.CompactText.{compact}
use Rattle.ld_model.specs.Iri.{has_scheme}
use Rattle.ld_model.specs.NodeMap.{added, changed, with_entries, with_node, generate}
use Rattle.ld_model.specs.Flatten.{flatten}
use Rattle.ld_model.specs.Plain.{is_plain}

reference : List ℕ → Tree
reference id = object (members_of ((codes "@id", text id) ∷ []))

value : List ℕ → Tree
value s = object (members_of ((codes "@value", text s) ∷ []))

node : List ℕ → List ℕ → List Tree → Tree
node id property entries = object (members_of ((codes "@id", text id) ∷ (property, array (trees_of entries)) ∷ []))

flattened : List Tree → List Tree
flattened ts = flatten (generate ts).graphs

a : Tree
a = node (codes "http://e/a") (codes "http://e/p") (value (codes "v") ∷ [])

b : Tree
b = node (codes "http://e/b") (codes "http://e/p") (reference (codes "http://e/a") ∷ [])

nothing : flattened [] ≡ []
unfolding flattened
nothing = refl

one_node_stays : flattened (a ∷ []) ≡ a ∷ []
unfolding put added changed with_entries with_node reference value node a b flattened
one_node_stays = refl

nodes_come_in_order : flattened (b ∷ a ∷ []) ≡ a ∷ b ∷ []
unfolding put added changed with_entries with_node reference value node a b flattened
nodes_come_in_order = refl

an_equal_value_stands_once : flattened (a ∷ a ∷ []) ≡ a ∷ []
unfolding put added changed with_entries with_node reference value node a b flattened
an_equal_value_stands_once = refl

an_equal_reference_stands_once : flattened (b ∷ b ∷ []) ≡ b ∷ []
unfolding put added changed with_entries with_node reference value node a b flattened
an_equal_reference_stands_once = refl

values_keep_their_order : flattened (a ∷ node (codes "http://e/a") (codes "http://e/p") (value (codes "u") ∷ value (codes "v") ∷ []) ∷ []) ≡ node (codes "http://e/a") (codes "http://e/p") (value (codes "v") ∷ value (codes "u") ∷ []) ∷ []
unfolding put added changed with_entries with_node reference value node a b flattened
values_keep_their_order = refl

a_node_with_only_an_id_is_dropped : flattened (reference (codes "http://e/a") ∷ []) ≡ []
unfolding put added changed with_entries with_node reference value node a b flattened
a_node_with_only_an_id_is_dropped = refl

an_empty_array_stays : flattened (node (codes "http://e/a") (codes "http://e/p") [] ∷ []) ≡ node (codes "http://e/a") (codes "http://e/p") [] ∷ []
unfolding put added changed with_entries with_node reference value node a b flattened
an_empty_array_stays = refl

a_blank_node_gets_a_label : flattened (node (codes "_:z") (codes "http://e/p") (value (codes "v") ∷ []) ∷ []) ≡ node (codes "_:b0") (codes "http://e/p") (value (codes "v") ∷ []) ∷ []
unfolding put added changed with_entries with_node digits reference value node a b flattened
a_blank_node_gets_a_label = refl

a_value_that_looks_like_a_reference_is_none : flattened (node (codes "http://e/a") (codes "http://e/p") (value (codes "http://e/a") ∷ reference (codes "http://e/a") ∷ []) ∷ []) ≡ node (codes "http://e/a") (codes "http://e/p") (value (codes "http://e/a") ∷ reference (codes "http://e/a") ∷ []) ∷ []
unfolding put added changed with_entries with_node reference value node a b flattened
a_value_that_looks_like_a_reference_is_none = refl

the_text : compact a ≡ codes "{\"@id\":\"http://e/a\",\"http://e/p\":[{\"@value\":\"v\"}]}"
unfolding escape_byte reference value node a b
the_text = refl

these_are_plain : is_plain (array (trees_of (a ∷ b ∷ []))) ≡ true
unfolding reference value node a b
these_are_plain = refl

a_number_is_not_plain : is_plain (array (trees_of (one_one ∷ []))) ≡ false
a_number_is_not_plain = refl

a_map_is_not_plain : is_plain a ≡ false
unfolding reference value node a b
a_map_is_not_plain = refl

a_scheme_stands_first : has_scheme (codes "a+1:x") ≡ true
a_scheme_stands_first = refl

a_colon_is_no_scheme : has_scheme (codes ":x") ≡ false
a_colon_is_no_scheme = refl

a_slash_ends_no_scheme : has_scheme (codes "a/b:x") ≡ false
a_slash_ends_no_scheme = refl
