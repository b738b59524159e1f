-- What a node map has in it (JSON-LD 1.1 API, section 7.2), and what changes in it.
use Rattle.std.specs.Prelude.{ℕ, List, [], ◌∷◌, ◌++◌, Bool, false, if◌then◌else◌, Option, Some, None}
use Rattle.std.specs.Str.{bytes_eq}
use Rattle.std.specs.List.{list_any}
use Rattle.ld_model.specs.Tree.{Tree, array, object, no_members, member, trees_of}
use Rattle.ld_model.specs.NodeMap.{added}
use Rattle.node_model.specs.Keys.{list_key}
use Rattle.node_model.specs.Maps.{MapOf, at, with_at}

-- A node of a graph: its types, its index, and the entries of its properties.
pub record Node : Type 0 where
  pub types : List (List ℕ)
  pub index : Option (List ℕ)
  pub properties : MapOf (List Tree)

-- The nodes of a graph by their ids, and graphs by their names.
abbrev pub Graph : Type 0
Graph = MapOf Node

abbrev pub Graphs : Type 0
Graphs = MapOf Graph

-- Two different indexes of a node.
pub record Conflict : Type 0 where
  pub node : List ℕ
  pub first : List ℕ
  pub second : List ℕ

-- Of what is missing, nothing is known.
abbrev pub new_node : Node
new_node = record { types = []; index = None; properties = [] }

abbrev pub node_or_new : Option Node → Node
node_or_new (Some n) = n
node_or_new None = new_node

abbrev pub graph_or_new : Option Graph → Graph
graph_or_new (Some g) = g
graph_or_new None = []

abbrev pub entries_or_none : Option (List Tree) → List Tree
entries_or_none (Some es) = es
entries_or_none None = []

abbrev pub graph_in : List ℕ → Graphs → Graph
graph_in g graphs = graph_or_new (at g graphs)

abbrev pub node_in : List ℕ → Graph → Node
node_in id nodes = node_or_new (at id nodes)

abbrev pub entries_in : List ℕ → MapOf (List Tree) → List Tree
entries_in property ps = entries_or_none (at property ps)

-- The graphs with one of them changed, and with one node of one of them changed. What is missing is made first.
abbrev pub on_graph : List ℕ → (Graph → Graph) → Graphs → Graphs
on_graph g change graphs = with_at g (change (graph_in g graphs)) graphs

abbrev pub with_node : List ℕ → (Node → Node) → Graph → Graph
with_node id change nodes = with_at id (change (node_in id nodes)) nodes

abbrev pub on_node : List ℕ → List ℕ → (Node → Node) → Graphs → Graphs
on_node g id change graphs = on_graph g (with_node id change) graphs

-- A list object, with nothing but its list.
abbrev pub list_object : List Tree → Tree
list_object ts = object (member list_key (array (trees_of ts)) no_members)

abbrev pub is_list_object : Tree → Bool
is_list_object (object (member k (array ts) no_members)) = bytes_eq k list_key
is_list_object _ = false

-- The entries of a property with this one at their end: a list in any case, a value or a reference unless an equal one is there
-- (steps 4.1.2, 5.3 and 6.6.2.2).
abbrev pub told : Tree → List Tree → List Tree
told e es = if is_list_object e then (es ++ e ∷ []) else added e es

abbrev pub with_entries : List ℕ → (List Tree → List Tree) → MapOf (List Tree) → MapOf (List Tree)
with_entries property change ps = with_at property (change (entries_in property ps)) ps

abbrev pub on_entries : List ℕ → (List Tree → List Tree) → Node → Node
on_entries property change n = record { types = n.types; index = n.index; properties = with_entries property change n.properties }

-- The types with this one at their end, unless it is among them (step 6.7).
abbrev pub type_told : List ℕ → List (List ℕ) → List (List ℕ)
type_told t ts = if list_any (bytes_eq t) ts then ts else (ts ++ t ∷ [])

abbrev pub with_type : List ℕ → Node → Node
with_type t n = record { types = type_told t n.types; index = n.index; properties = n.properties }

abbrev pub with_index : List ℕ → Node → Node
with_index i n = record { types = n.types; index = Some i; properties = n.properties }
