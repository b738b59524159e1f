-- The sum of operations: what they add to a node map, by graphs and nodes, each in the order of its first use.
use Rattle.std.specs.Prelude.{ℕ, ◌+◌, List, [], ◌∷◌, ◌++◌, Bool, false, ◌&&◌, if◌then◌else◌, Option, Some, None}
use Rattle.std.specs.Str.{bytes_eq}
use Rattle.ld_model.specs.Tree.{same_tree}
use Rattle.op_model.specs.Names.{Name, same_name}
use Rattle.op_model.specs.Ops.{Entry, value, reference, list, Op, use_label, ensure_graph, ensure_node, ensure_property, add_entry, append_list, add_type, set_index}
use Rattle.sum_model.specs.Joins.{lists_joined, maps_joined}

-- Where an operation is: in which chunk of the document, and which of the operations of that chunk, counted from 0.
pub record Place : Type 0 where
  pub chunk : ℕ
  pub number : ℕ

abbrev pub Placed : Type 0
Placed = Place × Op

abbrev pub placed_from : ℕ → ℕ → List Op → List Placed
placed_from chunk number [] = []
placed_from chunk number (o ∷ os) = (record { chunk = chunk; number = number }, o) ∷ placed_from chunk (number + 1) os

-- The operations of a chunk, each at its place.
abbrev pub placed : ℕ → List Op → List Placed
placed chunk os = placed_from chunk 0 os

-- Those of chunks, one after another, which are numbered from this number on.
abbrev pub placed_chunks : ℕ → List (List Op) → List Placed
placed_chunks chunk [] = []
placed_chunks chunk (os ∷ rest) = placed chunk os ++ placed_chunks (chunk + 1) rest

-- A node of a graph: the graph, and the node.
abbrev pub Key : Type 0
Key = Name × Name

abbrev pub same_key : Key → Key → Bool
same_key a b = same_name a.0 b.0 && same_name a.1 b.1

-- Whether an entry is an equal value or the same reference. No list is the same as anything.
abbrev pub same_entry : Entry → Entry → Bool
same_entry (value a) (value b) = same_tree a b
same_entry (reference a) (reference b) = same_name a b
same_entry _ _ = false

-- The index of a node: where it was first set, what it is, and where it was first set to something else, with that.
pub record Index : Type 0 where
  pub place : Place
  pub text : List ℕ
  pub conflict : Option (Place × List ℕ)

-- The first conflict of a node that had this index and maybe a conflict, once a later index comes: the earlier one stays; else a different
-- index is one itself; else the later one's conflict is one here too.
abbrev pub conflict_with : List ℕ → Option (Place × List ℕ) → Index → Option (Place × List ℕ)
conflict_with text (Some c) later = Some c
conflict_with text None later = if bytes_eq text later.text then later.conflict else Some (later.place, later.text)

abbrev pub indexes_joined : Option Index → Option Index → Option Index
indexes_joined None b = b
indexes_joined (Some a) None = Some a
indexes_joined (Some a) (Some b) = Some (record { place = a.place; text = a.text; conflict = conflict_with a.text a.conflict b })

-- What is said of a node: its types, its index, and its properties with their entries.
pub record PartEntry : Type 0 where
  pub types : List Name
  pub index : Option Index
  pub properties : List (Name × List Entry)

-- Nothing but that the node is there.
abbrev pub bare : PartEntry
bare = record { types = []; index = None; properties = [] }

abbrev pub properties_joined : List (Name × List Entry) → List (Name × List Entry) → List (Name × List Entry)
properties_joined = maps_joined same_name [] (lists_joined same_entry)

abbrev pub part_entries_joined : PartEntry → PartEntry → PartEntry
part_entries_joined a b = record {
  types = lists_joined same_name a.types b.types;
  index = indexes_joined a.index b.index;
  properties = properties_joined a.properties b.properties;
}

pub record Sum : Type 0 where
  pub graphs : List Name
  pub nodes : List (Key × PartEntry)

abbrev pub empty_sum : Sum
empty_sum = record { graphs = []; nodes = [] }

-- What the operations of one sum and then those of another add.
abbrev pub join : Sum → Sum → Sum
join a b = record {
  graphs = lists_joined same_name a.graphs b.graphs;
  nodes = maps_joined same_key bare part_entries_joined a.nodes b.nodes;
}

abbrev pub at_node : Name → Name → PartEntry → Sum
at_node graph node e = record { graphs = []; nodes = ((graph, node), e) ∷ [] }

abbrev pub at_property : Name → Name → Name → List Entry → Sum
at_property graph node property es = at_node graph node (record { types = []; index = None; properties = (property, es) ∷ [] })

-- What one operation adds.
abbrev pub sum_of_one : Place → Op → Sum
sum_of_one at (use_label name) = empty_sum
sum_of_one at (ensure_graph graph) = record { graphs = graph ∷ []; nodes = [] }
sum_of_one at (ensure_node graph node) = at_node graph node bare
sum_of_one at (ensure_property graph node property) = at_property graph node property []
sum_of_one at (add_entry graph node property e) = at_property graph node property (e ∷ [])
sum_of_one at (append_list graph node property es) = at_property graph node property (list es ∷ [])
sum_of_one at (add_type graph node name) = at_node graph node (record { types = name ∷ []; index = None; properties = [] })
sum_of_one at (set_index graph node text) = at_node graph node (record { types = []; index = Some (record { place = at; text = text; conflict = None }); properties = [] })

abbrev pub sum : List Placed → Sum
sum [] = empty_sum
sum (o ∷ os) = join (sum_of_one o.0 o.1) (sum os)
