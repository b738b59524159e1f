-- Node map generation (JSON-LD 1.1 API, section 7.2), for the entries that a plain document has. Entries of an object are
-- taken in the order of their keys' bytes, and each step is handed the nodes and the labels that the one before it left.
use Rattle.std.specs.Prelude.{ℕ, List, [], ◌∷◌, ◌++◌, if◌then◌else◌, Option, Some, None}
use Rattle.std.specs.List.{list_any}
use Rattle.std.specs.Str.{bytes_eq}
use Rattle.ld_model.specs.Tree.{Tree, text, array, object, Pairs, no_members, member, trees_of, members_of, tree_list, member_list, member_at, put, same_tree}
use Rattle.ld_model.specs.Label.{Labels, no_labels, is_blank, issue}
use Rattle.ld_model.specs.Keys.{id_key, default_graph}

-- The nodes of the graph so far, each at its id, and the labels issued so far.
pub record State : Type 0 where
  pub nodes : Pairs
  pub labels : Labels

-- A name of the document as it is in the node map, with the labels after it: the label of a blank node is replaced by the
-- one that is issued for it (section 7.4), and an IRI stays.
abbrev pub named : List ℕ → Labels → List ℕ × Labels
named s l = if is_blank s then issue (Some s) l else (s, l)

-- A node with nothing but its id.
abbrev pub new_node : List ℕ → Pairs
new_node id = (id_key, text id) ∷ []

-- The members of a node that may be missing.
abbrev pub node_or_new : List ℕ → Option Tree → Pairs
node_or_new id (Some (object ms)) = member_list ms
node_or_new id _ = new_node id

abbrev pub node_at : List ℕ → Pairs → Pairs
node_at id nodes = node_or_new id (member_at id nodes)

-- The nodes, with one of this id made where there is none (step 6.3).
abbrev pub with_node_by : Option Tree → List ℕ → Pairs → Pairs
with_node_by (Some t) id nodes = nodes
with_node_by None id nodes = put id (object (members_of (new_node id))) nodes

unfoldable pub with_node : List ℕ → Pairs → Pairs
with_node id nodes = with_node_by (member_at id nodes) id nodes

-- The entries of a property that may be missing.
abbrev pub entries_of : Option Tree → List Tree
entries_of (Some (array ts)) = tree_list ts
entries_of _ = []

-- The list with this entry at its end, unless an equal one is there (steps 4.1.2 and 6.6.2.2).
unfoldable pub added : Tree → List Tree → List Tree
added t ts = if list_any (same_tree t) ts then ts else (ts ++ t ∷ [])

-- A node with the entries of one of its properties changed.
unfoldable pub with_entries : List ℕ → (List Tree → List Tree) → Pairs → Pairs
with_entries property change node = put property (array (trees_of (change (entries_of (member_at property node))))) node

-- The nodes, with the entries of one property of one node changed.
unfoldable pub changed : List ℕ → List ℕ → (List Tree → List Tree) → Pairs → Pairs
changed id property change nodes = put id (object (members_of (with_entries property change (node_at id nodes)))) nodes

-- The id that an entry refers to, where it is a reference.
abbrev pub target : Tree → Option (List ℕ)
target (object (member k (text s) no_members)) = if bytes_eq k id_key then Some s else None
target _ = None

abbrev pub reference : List ℕ → Tree
reference id = object (member id_key (text id) no_members)

-- An entry of a property: a value is added to the node's property unless an equal one is there (step 4.1.2); a reference makes
-- its node, and is added unless it is there (steps 6.3 and 6.6.2.2).
abbrev pub value_into : List ℕ → List ℕ → Tree → State → State
value_into id property entry s = record { nodes = changed id property (added entry) s.nodes; labels = s.labels }

abbrev pub reference_into : List ℕ → List ℕ → List ℕ × Labels → Pairs → State
reference_into id property to nodes = record { nodes = changed id property (added (reference to.0)) (with_node to.0 nodes); labels = to.1 }

abbrev pub entry_by : Option (List ℕ) → List ℕ → List ℕ → Tree → State → State
entry_by None id property entry s = value_into id property entry s
entry_by (Some to) id property entry s = reference_into id property (named to s.labels) s.nodes

abbrev pub entry_into : List ℕ → List ℕ → Tree → State → State
entry_into id property entry s = entry_by (target entry) id property entry s

abbrev pub entries_into : List ℕ → List ℕ → List Tree → State → State
entries_into id property [] s = s
entries_into id property (e ∷ es) s = entries_into id property es (entry_into id property e s)

-- A property: its name is replaced where it is blank, its array is made where it is missing, and its entries are added
-- (step 6.12).
abbrev pub named_property_into : List ℕ → List ℕ × Labels → List Tree → Pairs → State
named_property_into id property es nodes =
    entries_into id property.0 es (record { nodes = changed id property.0 (λ ts. ts) nodes; labels = property.1 })

abbrev pub property_into : List ℕ → List ℕ × Tree → State → State
property_into id m s = named_property_into id (named m.0 s.labels) (entries_of (Some m.1)) s.nodes

-- The members of a node object but its id.
abbrev pub properties_into : List ℕ → Pairs → State → State
properties_into id [] s = s
properties_into id (m ∷ ms) s = properties_into id ms (if bytes_eq m.0 id_key then s else property_into id m s)

-- The name of a node object: that of its `@id`, or else a new label (step 6.1 and 6.2).
abbrev pub name_of : Option Tree → Labels → List ℕ × Labels
name_of (Some (text s)) l = named s l
name_of _ l = issue None l

abbrev pub named_item_into : List ℕ × Labels → Pairs → Pairs → State
named_item_into id ms nodes = properties_into id.0 ms (record { nodes = with_node id.0 nodes; labels = id.1 })

-- A node object of the document (step 6).
abbrev pub item_into : Tree → State → State
item_into (object ms) s = named_item_into (name_of (member_at id_key (member_list ms)) s.labels) (member_list ms) s.nodes
item_into _ s = s

-- The items of the document, one after another (step 1).
abbrev pub items_into : List Tree → State → State
items_into [] s = s
items_into (t ∷ ts) s = items_into ts (item_into t s)

-- What generation gives: a map from names of graphs to maps from ids to nodes, and how many labels were issued.
pub record Generated : Type 0 where
  pub graphs : Pairs
  pub issued : ℕ

abbrev pub generated : State → Generated
generated s = record { graphs = (default_graph, object (members_of s.nodes)) ∷ []; issued = s.labels.issued }

abbrev pub generate : List Tree → Generated
generate ts = generated (items_into ts (record { nodes = []; labels = no_labels }))
