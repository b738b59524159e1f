-- Small documents with what they use and state, computed from the definitions.
use Rattle.std.proofs.Common.{◌≡◌, ℕ, List, [], ◌∷◌, refl, Ok}
use Rattle.std.specs.Prelude.{codes}
use Rattle.std.specs.Fmt.{digits}
use Rattle.ld_model.specs.Tree.{Tree, Pairs, text, array, object, trees_of, members_of, put}
use Rattle.ld_model.specs.Flatten.{flatten}
use Rattle.ld_model.specs.NodeMap.{added}
use Rattle.node_model.specs.Maps.{with_at}
use Rattle.node_model.specs.Generating.{Generated, generate}
use Rattle.node_laws.specs.Uses.{of_label, of_node, uses_in}
use Rattle.node_laws.specs.Stated.{it_is, a_property, an_entry, a_type, an_index, of_graph, of_node as of, stated_in, conflicts_in}

abbrev map : Pairs → Tree
map ms = object (members_of ms)

abbrev list : List Tree → Tree
list ts = array (trees_of ts)

abbrev string : List ℕ → Tree
string s = map ((codes "@value", text s) ∷ [])

abbrev to : List ℕ → Tree
to id = map ((codes "@id", text id) ∷ [])

abbrev a : List ℕ
a = codes "http://e/a"

abbrev p : List ℕ
p = codes "http://e/p"

-- A node without an id, which has the type `_:t`, and refers to `_:n` twice and to another node without an id.
each_label_is_used_once : uses_in (map ((codes "@type", list (text (codes "_:t") ∷ text a ∷ [])) ∷ (p, list (to (codes "_:n") ∷ map [] ∷ to (codes "_:n") ∷ [])) ∷ []) ∷ []) ≡ of_label (codes "_:t") ∷ of_node ∷ of_label (codes "_:n") ∷ of_node ∷ []
each_label_is_used_once = refl

-- A node with a graph: it is there, then its graph and what stands in that, and then its property.
a_graph_comes_before_properties : stated_in (map ((codes "@graph", list (map ((codes "@id", text p) ∷ (codes "@index", text (codes "1")) ∷ []) ∷ [])) ∷ (codes "@id", text a) ∷ (codes "@type", list (text p ∷ [])) ∷ (p, list (string a ∷ to p ∷ [])) ∷ []) ∷ [])
    ≡ of (codes "@default") a it_is
    ∷ of (codes "@default") a (a_type p)
    ∷ of_graph a
    ∷ of a p it_is
    ∷ of a p (an_index (codes "1"))
    ∷ of (codes "@default") a (a_property p)
    ∷ of (codes "@default") a (an_entry p (string a))
    ∷ of (codes "@default") p it_is
    ∷ of (codes "@default") a (an_entry p (to p))
    ∷ []
a_graph_comes_before_properties = refl

abbrev indexed : List ℕ → Tree
indexed index = map ((codes "@id", text a) ∷ (codes "@index", text index) ∷ [])

-- Each index that differs from the first.
indexes_are_compared_with_the_first : conflicts_in (stated_in (indexed (codes "1") ∷ indexed (codes "2") ∷ indexed (codes "1") ∷ indexed (codes "3") ∷ []))
    ≡ record { node = a; first = codes "1"; second = codes "2" } ∷ record { node = a; first = codes "1"; second = codes "3" } ∷ []
indexes_are_compared_with_the_first = refl

-- A document whose outcome changes when it is flattened again. The label of its node is issued first, and that of the node's type second.
-- In the outcome both stand in one node object, where the type comes before the id.
named_first : List Tree
named_first = map ((codes "@id", text (codes "_:n")) ∷ (p, list (string a ∷ [])) ∷ []) ∷ map ((codes "@id", text (codes "_:n")) ∷ (codes "@type", list (text (codes "_:t") ∷ [])) ∷ []) ∷ []

abbrev outcome : List ℕ → List ℕ → Tree
outcome id name = map ((codes "@id", text id) ∷ (codes "@type", list (text name ∷ [])) ∷ (p, list (string a ∷ [])) ∷ [])

abbrev node_map : List ℕ → List ℕ → Generated
node_map id name = record { graphs = (codes "@default", map ((id, outcome id name) ∷ [])) ∷ []; issued = 2 }

at_first : generate named_first ≡ Ok (node_map (codes "_:b0") (codes "_:b1"))
unfolding named_first put with_at added digits
at_first = refl

at_first_flattened : flatten (node_map (codes "_:b0") (codes "_:b1")).graphs ≡ outcome (codes "_:b0") (codes "_:b1") ∷ []
at_first_flattened = refl

again : generate (outcome (codes "_:b0") (codes "_:b1") ∷ []) ≡ Ok (node_map (codes "_:b1") (codes "_:b0"))
unfolding put with_at added digits
again = refl
