-- What small lists of operations tell, computed from the definitions.
use Rattle.std.proofs.Common.{◌≡◌, List, [], ◌∷◌, refl, false, true, Some}
use Rattle.std.specs.Prelude.{codes}
use Rattle.std.specs.Fmt.{digits}
use Rattle.ld_model.specs.Tree.{Tree, text, object, members_of}
use Rattle.ld_model.specs.NodeMap.{added, reference as reference_to}
use Rattle.node_model.specs.Maps.{with_at}
use Rattle.node_model.specs.NodeMap.{new_node}
use Rattle.op_model.specs.Names.{Name, iri, source, fresh}
use Rattle.op_model.specs.Ops.{Op, value, reference, ensure_node, add_entry, add_type, set_index, use_label}
use Rattle.op_laws.specs.Words.{is_known}
use Rattle.op_laws.specs.Told.{is_of_graph, is_of_node, node_told, entries_told, conflict_told}

abbrev g : Name
g = iri (codes "@default")

abbrev p : Name
p = iri (codes "http://e/p")

abbrev x : Name
x = source (codes "_:x")

abbrev names : List Name
names = fresh 0 0 ∷ x ∷ []

abbrev v : Tree
v = object (members_of ((codes "@value", text (codes "v")) ∷ []))

abbrev os : List Op
os = ensure_node g (fresh 0 0) ∷ add_entry g (fresh 0 0) p (value v) ∷ add_entry g x p (value v) ∷ add_type g x (iri (codes "http://e/T"))
    ∷ set_index g x (codes "1") ∷ add_entry g (fresh 0 0) p (reference x) ∷ add_entry g (fresh 0 0) p (value v) ∷ set_index g x (codes "2") ∷ []

-- Of the first node the operations tell a value and a reference, of the other one a value, a type and an index.
entries_stand_once : entries_told names (codes "@default") (codes "_:b0") (codes "http://e/p") os [] ≡ v ∷ reference_to (codes "_:b1") ∷ []
unfolding added digits
entries_stand_once = refl

a_node_is_told : node_told names (codes "@default") (codes "_:b1") os new_node
    ≡ record { types = codes "http://e/T" ∷ []; index = Some (codes "1"); properties = (codes "http://e/p", v ∷ []) ∷ [] }
unfolding added with_at digits
a_node_is_told = refl

a_conflict_is_told : conflict_told names [] os ≡ Some (record { node = codes "_:b1"; first = codes "1"; second = codes "2" })
unfolding added with_at digits
a_conflict_is_told = refl

-- Another graph's node of the same name is another node, and a label that is needed says nothing of a graph.
graphs_are_apart : is_of_node names (codes "http://e/g") (codes "_:b0") (ensure_node g (fresh 0 0)) ≡ false
graphs_are_apart = refl

no_graph_is_meant : is_of_graph names (codes "_:b1") (use_label x) ≡ false
no_graph_is_meant = refl

an_iri_is_always_known : is_known [] p ≡ true
an_iri_is_always_known = refl

a_label_is_known_once_used : is_known names (source (codes "_:y")) ≡ false
a_label_is_known_once_used = refl
