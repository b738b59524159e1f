-- Operations of small documents, and what they make, computed from the definitions.
use Rattle.std.proofs.Common.{◌≡◌, ℕ, List, [], ◌∷◌, refl, false, true, Some, None}
use Rattle.std.specs.Prelude.{codes}
use Rattle.std.specs.Fmt.{digits}
use Rattle.ld_model.specs.Tree.{Tree, Pairs, text, array, object, trees_of, members_of}
use Rattle.ld_model.specs.NodeMap.{added}
use Rattle.node_model.specs.Maps.{with_at}
use Rattle.node_model.specs.NodeMap.{Node, list_object}
use Rattle.node_model.specs.Generating.{walked}
use Rattle.op_model.specs.Names.{Name, iri, source, fresh}
use Rattle.op_model.specs.Ops.{Op, value, reference, list, no_entries, entry, same_entry, use_label, ensure_graph, ensure_node, ensure_property, add_entry, append_list, add_type, set_index}
use Rattle.op_model.specs.Noting.{range, top_range, spine, is_placed, ops_of, ops_of_chunks}
use Rattle.op_model.specs.Running.{with_name, used, label_in, uses, run, before}

abbrev map : Pairs → Tree
map ms = object (members_of ms)

abbrev items : List Tree → Tree
items ts = array (trees_of ts)

abbrev v : Tree
v = map ((codes "@value", text (codes "v")) ∷ [])

abbrev to : List ℕ → Tree
to id = map ((codes "@id", text id) ∷ [])

abbrev a : List ℕ
a = codes "http://e/a"

abbrev b : List ℕ
b = codes "http://e/b"

abbrev p : List ℕ
p = codes "http://e/p"

abbrev default : Name
default = iri (codes "@default")

-- A type's label is needed before the node's own name.
types_are_named_first : ops_of 7 (top_range (map ((codes "@type", items (text (codes "_:t") ∷ [])) ∷ []) ∷ []))
    ≡ use_label (source (codes "_:t")) ∷ ensure_node default (fresh 7 0) ∷ add_type default (fresh 7 0) (source (codes "_:t")) ∷ []
types_are_named_first = refl

-- A property is ensured before what stands in its array, and a reference makes its node.
a_reference_is_noted : ops_of 0 (top_range (map ((codes "@id", text a) ∷ (p, items (v ∷ to b ∷ [])) ∷ []) ∷ []))
    ≡ ensure_node default (iri a) ∷ ensure_property default (iri a) (iri p) ∷ add_entry default (iri a) (iri p) (value v)
    ∷ ensure_node default (iri b) ∷ add_entry default (iri a) (iri p) (reference (iri b)) ∷ []
a_reference_is_noted = refl

-- A list is gathered, with the nodes in it, and then appended.
a_list_is_noted : ops_of 0 (top_range (map ((codes "@id", text a) ∷ (p, items (map ((codes "@list", items (v ∷ map [] ∷ [])) ∷ []) ∷ [])) ∷ []) ∷ []))
    ≡ ensure_node default (iri a) ∷ ensure_property default (iri a) (iri p) ∷ ensure_node default (fresh 0 0)
    ∷ append_list default (iri a) (iri p) (entry (value v) (entry (reference (fresh 0 0)) no_entries)) ∷ []
a_list_is_noted = refl

-- A graph is ensured once its node is, and an index is set on a node of the graph.
a_graph_is_noted : ops_of 0 (top_range (map ((codes "@graph", items (map ((codes "@id", text b) ∷ (codes "@index", text (codes "i")) ∷ []) ∷ [])) ∷ (codes "@id", text a) ∷ []) ∷ []))
    ≡ ensure_node default (iri a) ∷ ensure_graph (iri a) ∷ ensure_node (iri a) (iri b) ∷ set_index (iri a) (iri b) (codes "i") ∷ []
a_graph_is_noted = refl

-- Items of a property's array alone, and of a reverse property's.
a_range_is_noted : ops_of 3 (range (map [] ∷ v ∷ []) (iri a) (Some (iri b)) (Some (iri p)) false)
    ≡ ensure_node (iri a) (fresh 3 0) ∷ add_entry (iri a) (iri b) (iri p) (reference (fresh 3 0)) ∷ add_entry (iri a) (iri b) (iri p) (value v) ∷ []
a_range_is_noted = refl

a_reversed_range_is_noted : ops_of 3 (range (map [] ∷ v ∷ []) (iri a) (Some (iri b)) (Some (iri p)) true)
    ≡ ensure_node (iri a) (fresh 3 0) ∷ add_entry (iri a) (fresh 3 0) (iri p) (reference (iri b)) ∷ []
a_reversed_range_is_noted = refl

-- Two chunks name their nodes apart.
chunks_are_numbered : ops_of_chunks 4 (top_range (map [] ∷ map [] ∷ []) ∷ spine (ensure_graph (iri a) ∷ []) ∷ top_range (map [] ∷ []) ∷ [])
    ≡ ensure_node default (fresh 4 0) ∷ ensure_node default (fresh 4 1) ∷ ensure_graph (iri a) ∷ ensure_node default (fresh 6 0) ∷ []
chunks_are_numbered = refl

-- Names in the order of first use, and labels by their places.
names_are_used_once : used [] (source (codes "_:x") ∷ fresh 1 0 ∷ source (codes "_:x") ∷ fresh 0 0 ∷ []) ≡ source (codes "_:x") ∷ fresh 1 0 ∷ fresh 0 0 ∷ []
unfolding with_name
names_are_used_once = refl

a_label_is_a_place : label_in (source (codes "_:x") ∷ fresh 1 0 ∷ []) (fresh 1 0) ≡ codes "_:b1"
unfolding digits
a_label_is_a_place = refl

an_iri_stays : label_in (source (codes "_:x") ∷ []) (iri a) ≡ a
an_iri_stays = refl

uses_go_by_fields : uses (append_list (source (codes "_:g")) (fresh 0 1) (iri p) (entry (value v) (entry (list (entry (reference (fresh 0 2)) no_entries)) no_entries)))
    ≡ source (codes "_:g") ∷ fresh 0 1 ∷ fresh 0 2 ∷ []
uses_go_by_fields = refl

-- A label of the document that both chunks use, and a node without an id in each.
abbrev one : List Tree
one = map ((codes "@id", text (codes "_:x")) ∷ []) ∷ map [] ∷ []

abbrev other : List Tree
other = map [] ∷ map ((p, items (to (codes "_:x") ∷ [])) ∷ []) ∷ []

abbrev bare : Node
bare = record { types = []; index = None; properties = [] }

abbrev with_reference : Node
with_reference = record { types = []; index = None; properties = (p, to (codes "_:b0") ∷ []) ∷ [] }

operations_make_a_node_map : run (ops_of_chunks 0 (top_range one ∷ top_range other ∷ [])) before ≡ record {
  names = source (codes "_:x") ∷ fresh 0 0 ∷ fresh 1 0 ∷ fresh 1 1 ∷ [];
  state = record {
    graphs = (codes "@default", (codes "_:b0", bare) ∷ (codes "_:b1", bare) ∷ (codes "_:b2", bare) ∷ (codes "_:b3", with_reference) ∷ []) ∷ [];
    labels = record { issued = 4; given = (codes "_:x", 0) ∷ [] };
    conflict = None;
  };
}
unfolding with_name with_at added digits
operations_make_a_node_map = refl

generation_makes_the_same : walked (map ((codes "@id", text (codes "_:x")) ∷ []) ∷ map [] ∷ other) ≡ (run (ops_of_chunks 0 (top_range one ∷ top_range other ∷ [])) before).state
unfolding with_name with_at added digits
generation_makes_the_same = refl

-- The first of two conflicts stays, and an equal index is none.
abbrev two_indexes : List Op
two_indexes = set_index default (fresh 0 0) (codes "1") ∷ set_index default (fresh 0 0) (codes "1") ∷ set_index default (fresh 0 0) (codes "2") ∷ set_index default (fresh 0 0) (codes "3") ∷ []

the_first_conflict_is_kept : (run two_indexes before).state.conflict ≡ Some (record { node = codes "_:b0"; first = codes "1"; second = codes "2" })
unfolding with_name with_at digits
the_first_conflict_is_kept = refl

-- An equal value is added once, and a list each time.
abbrev entries_twice : List Op
entries_twice = add_entry default (iri a) (iri p) (value v) ∷ append_list default (iri a) (iri p) no_entries ∷ add_entry default (iri a) (iri p) (value v) ∷ append_list default (iri a) (iri p) no_entries ∷ []

lists_are_kept : (run entries_twice before).state.graphs
    ≡ (codes "@default", (a, record { types = []; index = None; properties = (p, v ∷ list_object [] ∷ list_object [] ∷ []) ∷ [] }) ∷ []) ∷ []
unfolding with_name with_at added
lists_are_kept = refl

an_equal_value_is_the_same : same_entry (value v) (value v) ≡ true
an_equal_value_is_the_same = refl

an_equal_list_is_another : same_entry (list no_entries) (list no_entries) ≡ false
an_equal_list_is_another = refl

-- Where a range may stand.
a_subject_wants_a_property : is_placed (range [] default (Some (iri a)) None false) ≡ false
a_subject_wants_a_property = refl

nothing_is_reversed_alone : is_placed (range [] default None None true) ≡ false
nothing_is_reversed_alone = refl

the_top_is_placed : is_placed (top_range one) ≡ true
the_top_is_placed = refl
