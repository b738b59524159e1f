-- Chunks of small documents, computed from the definitions.
use Rattle.std.proofs.Common.{◌≡◌, ℕ, List, [], ◌∷◌, refl, false, true, Some, None}
use Rattle.std.specs.Prelude.{codes}
use Rattle.ld_model.specs.Tree.{Tree, Pairs, text, array, object, trees_of, members_of}
use Rattle.op_model.specs.Names.{Name, iri, source, fresh}
use Rattle.op_model.specs.Ops.{reference, no_entries, entry, use_label, ensure_graph, ensure_node, ensure_property, add_entry, append_list, add_type}
use Rattle.op_model.specs.Noting.{Chunk, spine, range, top_range}
use Rattle.division_model.specs.Dividing.{Plan, opened, begins, continues, chunks_by}
use Rattle.division_model.specs.ByWeight.{chunks_at, cut_expanded}

abbrev map : Pairs → Tree
map ms = object (members_of ms)

abbrev items : List Tree → Tree
items ts = array (trees_of ts)

abbrev a : List ℕ
a = codes "http://e/a"

abbrev p : List ℕ
p = codes "http://e/p"

abbrev q : List ℕ
q = codes "http://e/q"

abbrev default : Name
default = iri (codes "@default")

-- A node object without an entry weighs 1, and one with an id 2.
abbrev unnamed : Tree
unnamed = map []

abbrev named : List ℕ → Tree
named id = map ((codes "@id", text id) ∷ [])

-- A range of the values of a property of `http://e/a`.
abbrev values : List ℕ → List Tree → Chunk
values property ts = range ts default (Some (iri a)) (Some (iri property)) false

nothing_has_no_chunks : cut_expanded [] 1 ≡ []
nothing_has_no_chunks = refl

-- The document's array is cut, but each of its items holds only arrays of one item.
items_are_ranges :
    let first = map ((codes "@id", text (codes "_:z")) ∷ (p, items (named (codes "_:y") ∷ [])) ∷ []) in
    let second = map ((q, items (named (codes "_:z") ∷ [])) ∷ []) in
    cut_expanded (first ∷ second ∷ []) 1 ≡ top_range (first ∷ []) ∷ top_range (second ∷ []) ∷ []
items_are_ranges = refl

-- A spine has what comes before the array of a property: its node, and the property itself.
a_property_is_divided :
    chunks_at 1 (map ((codes "@id", text a) ∷ (p, items (unnamed ∷ unnamed ∷ [])) ∷ []) ∷ [])
    ≡ spine (ensure_node default (iri a) ∷ ensure_property default (iri a) (iri p) ∷ [])
    ∷ values p (unnamed ∷ []) ∷ values p (unnamed ∷ []) ∷ []
a_property_is_divided = refl

-- A range takes items from the left while they weigh at most the limit together, and at least one.
ranges_weigh_at_most_the_limit :
    chunks_at 3 (unnamed ∷ named a ∷ unnamed ∷ map ((p, items (named a ∷ [])) ∷ []) ∷ unnamed ∷ [])
    ≡ top_range (unnamed ∷ named a ∷ []) ∷ top_range (unnamed ∷ [])
    ∷ top_range (map ((p, items (named a ∷ [])) ∷ []) ∷ []) ∷ top_range (unnamed ∷ []) ∷ []
ranges_weigh_at_most_the_limit = refl

-- An array that weighs as much as the limit stays whole, in the spine of the node that it belongs to.
an_array_within_the_limit_stays :
    chunks_at 3 (map ((codes "@id", text a) ∷ (p, items (unnamed ∷ unnamed ∷ [])) ∷ []) ∷ [])
    ≡ spine (ensure_node default (iri a) ∷ ensure_property default (iri a) (iri p)
    ∷ ensure_node default (fresh 0 0) ∷ add_entry default (iri a) (iri p) (reference (fresh 0 0))
    ∷ ensure_node default (fresh 0 1) ∷ add_entry default (iri a) (iri p) (reference (fresh 0 1)) ∷ []) ∷ []
an_array_within_the_limit_stays = refl

-- An array of one item isn't cut, and the arrays inside its item are.
an_array_of_one_is_opened :
    let inner = map ((codes "@id", text a) ∷ (q, items (unnamed ∷ unnamed ∷ [])) ∷ []) in
    chunks_at 2 (map ((codes "@id", text a) ∷ (p, items (inner ∷ [])) ∷ []) ∷ [])
    ≡ spine (ensure_node default (iri a) ∷ ensure_property default (iri a) (iri p) ∷ ensure_node default (iri a)
    ∷ add_entry default (iri a) (iri p) (reference (iri a)) ∷ ensure_property default (iri a) (iri q) ∷ [])
    ∷ values q (unnamed ∷ unnamed ∷ []) ∷ []
an_array_of_one_is_opened = refl

-- An item that is opened is made in a spine. Without an id it is called by the number of that spine, also as the graph and as the subject of
-- later ranges. The spine before the first range has no operations, and is left out.
an_opened_item_is_named_by_its_spine :
    let three = unnamed ∷ unnamed ∷ unnamed ∷ [] in
    chunks_at 3 (named a ∷ map ((codes "@graph", items three) ∷ (codes "@type", items (text q ∷ [])) ∷ (p, items three) ∷ []) ∷ named a ∷ [])
    ≡ top_range (named a ∷ [])
    ∷ spine (ensure_node default (fresh 1 0) ∷ add_type default (fresh 1 0) (iri q) ∷ ensure_graph (fresh 1 0) ∷ [])
    ∷ range three (fresh 1 0) None None false
    ∷ spine (ensure_property default (fresh 1 0) (iri p) ∷ [])
    ∷ range three default (Some (fresh 1 0)) (Some (iri p)) false
    ∷ top_range (named a ∷ []) ∷ []
an_opened_item_is_named_by_its_spine = refl

-- The values of reverse properties, a blank one among them, and what is included.
reverse_properties_are_divided :
    let two = unnamed ∷ unnamed ∷ [] in
    let reversed = map ((codes "_:r", items two) ∷ []) in
    chunks_at 2 (map ((codes "@id", text a) ∷ (codes "@included", items two) ∷ (codes "@reverse", reversed) ∷ []) ∷ [])
    ≡ spine (ensure_node default (iri a) ∷ use_label (source (codes "_:r")) ∷ [])
    ∷ range two default (Some (iri a)) (Some (source (codes "_:r"))) true
    ∷ top_range two ∷ []
reverse_properties_are_divided = refl

-- A list is never divided.
a_list_stays_whole :
    chunks_at 1 (map ((codes "@id", text a) ∷ (p, items (map ((codes "@list", items (named a ∷ named a ∷ [])) ∷ []) ∷ [])) ∷ []) ∷ [])
    ≡ spine (ensure_node default (iri a) ∷ ensure_property default (iri a) (iri p)
    ∷ ensure_node default (iri a) ∷ ensure_node default (iri a)
    ∷ append_list default (iri a) (iri p) (entry (reference (iri a)) (entry (reference (iri a)) no_entries)) ∷ []) ∷ []
a_list_stays_whole = refl

-- A plan need not go by weight. Here the first item of each array is opened, the next two are one range, and what is left is opened too.
any_plan_divides :
    let plan : Plan = λ place ts. opened ∷ begins ∷ continues ∷ [] in
    chunks_by plan (unnamed ∷ named a ∷ named p ∷ unnamed ∷ [])
    ≡ spine (ensure_node default (fresh 0 0) ∷ []) ∷ top_range (named a ∷ named p ∷ [])
    ∷ spine (ensure_node default (fresh 2 0) ∷ []) ∷ []
any_plan_divides = refl
