-- Small documents with their node maps, computed from the definitions.
use Rattle.std.proofs.Common.{◌≡◌, ℕ, List, [], ◌∷◌, refl, Ok, Err}
use Rattle.std.specs.Prelude.{codes}
use Rattle.std.specs.Fmt.{digits}
use Rattle.ld_model.specs.Tree.{Tree, Pairs, text, array, object, trees_of, members_of, put}
use Rattle.ld_model.specs.NodeMap.{added}
use Rattle.node_model.specs.Maps.{with_at}
use Rattle.node_model.specs.Generating.{generate}

abbrev map : Pairs → Tree
map ms = object (members_of ms)

abbrev list : List Tree → Tree
list ts = array (trees_of ts)

abbrev string : List ℕ → Tree
string s = map ((codes "@value", text s) ∷ [])

abbrev to : List ℕ → Tree
to id = map ((codes "@id", text id) ∷ [])

abbrev items : List Tree → Tree
items ts = map ((codes "@list", list ts) ∷ [])

abbrev a : List ℕ
a = codes "http://e/a"

abbrev b : List ℕ
b = codes "http://e/b"

abbrev p : List ℕ
p = codes "http://e/p"

-- The default graph, and nothing beside it.
abbrev default : Pairs → Pairs
default nodes = (codes "@default", map nodes) ∷ []

nothing : generate [] ≡ Ok (record { graphs = default []; issued = 0 })
nothing = refl

-- The labels of a node's types are issued before its own.
types_come_before_the_id : generate (map ((codes "@id", text (codes "_:n")) ∷ (codes "@type", list (text (codes "_:t") ∷ text a ∷ text (codes "_:t") ∷ [])) ∷ []) ∷ [])
    ≡ Ok (record { graphs = default ((codes "_:b1", map ((codes "@id", text (codes "_:b1")) ∷ (codes "@type", list (text (codes "_:b0") ∷ text a ∷ [])) ∷ [])) ∷ []); issued = 2 })
unfolding put with_at digits
types_come_before_the_id = refl

-- An equal value or reference stands once. Each list stands, equal to another one or not, with the equal values that are in it.
equal_lists_are_kept : generate (map ((codes "@id", text b) ∷ (p, list (items (string a ∷ string a ∷ []) ∷ string a ∷ to a ∷ items (string a ∷ string a ∷ []) ∷ to a ∷ string a ∷ [])) ∷ []) ∷ [])
    ≡ Ok (record {
      graphs = default ((a, to a) ∷ (b, map ((codes "@id", text b) ∷ (p, list (items (string a ∷ string a ∷ []) ∷ string a ∷ to a ∷ items (string a ∷ string a ∷ []) ∷ [])) ∷ [])) ∷ []);
      issued = 0;
    })
unfolding put with_at added
equal_lists_are_kept = refl

-- A list in a list, with a node of its own.
lists_stand_in_lists : generate (map ((codes "@id", text b) ∷ (p, list (items (items (map ((codes "@id", text a) ∷ (p, list (string a ∷ [])) ∷ []) ∷ []) ∷ []) ∷ [])) ∷ []) ∷ [])
    ≡ Ok (record {
      graphs = default ((a, map ((codes "@id", text a) ∷ (p, list (string a ∷ [])) ∷ [])) ∷ (b, map ((codes "@id", text b) ∷ (p, list (items (items (to a ∷ []) ∷ []) ∷ [])) ∷ [])) ∷ []);
      issued = 0;
    })
unfolding put with_at added
lists_stand_in_lists = refl

-- The node that a reverse property has gets that property, and the node that has it gets none.
a_reverse_property_is_turned : generate (map ((codes "@id", text a) ∷ (codes "@reverse", map ((p, list (to b ∷ [])) ∷ [])) ∷ []) ∷ [])
    ≡ Ok (record { graphs = default ((a, to a) ∷ (b, map ((codes "@id", text b) ∷ (p, list (to a ∷ [])) ∷ [])) ∷ []); issued = 0 })
unfolding put with_at added
a_reverse_property_is_turned = refl

an_empty_graph_is_made : generate (map ((codes "@graph", list []) ∷ (codes "@id", text a) ∷ []) ∷ [])
    ≡ Ok (record { graphs = (codes "@default", map ((a, to a) ∷ [])) ∷ (a, map []) ∷ []; issued = 0 })
unfolding put with_at
an_empty_graph_is_made = refl

-- A property without an entry is there, with none.
an_empty_property_is_made : generate (map ((codes "@id", text a) ∷ (p, list []) ∷ []) ∷ []) ≡ Ok (record { graphs = default ((a, map ((codes "@id", text a) ∷ (p, list []) ∷ [])) ∷ []); issued = 0 })
unfolding put with_at
an_empty_property_is_made = refl

abbrev indexed : List ℕ → Tree
indexed index = map ((codes "@id", text a) ∷ (codes "@index", text index) ∷ [])

an_index_stands_once : generate (indexed (codes "1") ∷ indexed (codes "1") ∷ []) ≡ Ok (record { graphs = default ((a, indexed (codes "1")) ∷ []); issued = 0 })
unfolding put with_at
an_index_stands_once = refl

the_first_conflict_stays : generate (indexed (codes "1") ∷ indexed (codes "1") ∷ indexed (codes "2") ∷ indexed (codes "3") ∷ []) ≡ Err (record { node = a; first = codes "1"; second = codes "2" })
unfolding put with_at
the_first_conflict_stays = refl

-- A value that is an item of the document, a list with a node in it, and a text.
what_goes_nowhere_is_skipped : generate (string a ∷ items (map ((codes "@id", text a) ∷ []) ∷ map [] ∷ []) ∷ text a ∷ []) ≡ Ok (record { graphs = default []; issued = 0 })
what_goes_nowhere_is_skipped = refl

-- A value, and a list with a node in it, that are reached by a reverse property.
what_can_be_no_node_is_skipped : generate (map ((codes "@id", text a) ∷ (codes "@reverse", map ((p, list (string a ∷ items (to b ∷ []) ∷ [])) ∷ [])) ∷ []) ∷ []) ≡ Ok (record { graphs = default ((a, to a) ∷ []); issued = 0 })
unfolding put with_at
what_can_be_no_node_is_skipped = refl

-- An included node stands beside the one that includes it, with no word between them. Both are without an id.
included_nodes_stand_beside : generate (map ((codes "@included", list (map ((p, list (string a ∷ [])) ∷ []) ∷ [])) ∷ []) ∷ [])
    ≡ Ok (record { graphs = default ((codes "_:b0", to (codes "_:b0")) ∷ (codes "_:b1", map ((codes "@id", text (codes "_:b1")) ∷ (p, list (string a ∷ [])) ∷ [])) ∷ []); issued = 2 })
unfolding put with_at added digits
included_nodes_stand_beside = refl

-- One label, for a node, a type, a property, and the name of the graph that the node is.
a_label_is_one_everywhere : generate (map ((codes "@graph", list (to (codes "_:x") ∷ [])) ∷ (codes "@id", text (codes "_:x")) ∷ (codes "@type", list (text (codes "_:x") ∷ [])) ∷ (codes "_:x", list (to (codes "_:x") ∷ [])) ∷ []) ∷ [])
    ≡ Ok (record {
      graphs =
          (codes "@default", map ((codes "_:b0", map ((codes "@id", text (codes "_:b0")) ∷ (codes "@type", list (text (codes "_:b0") ∷ [])) ∷ (codes "_:b0", list (to (codes "_:b0") ∷ [])) ∷ [])) ∷ []))
          ∷ (codes "_:b0", map ((codes "_:b0", to (codes "_:b0")) ∷ []))
          ∷ [];
      issued = 1;
    })
unfolding put with_at added digits
a_label_is_one_everywhere = refl
