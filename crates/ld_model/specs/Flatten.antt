-- Flattening a node map (JSON-LD 1.1 API, section 7.1, steps 4 to 7): filters and orders of its entries.
use Rattle.std.specs.Prelude.{ℕ, List, [], ◌∷◌, length, Bool, false, nat_lt, if◌then◌else◌, Option, Some, filter, map as each}
use Rattle.std.specs.Str.{bytes_eq}
use Rattle.ld_model.specs.Tree.{Tree, array, object, Pairs, trees_of, members_of, member_list, member_at, put}
use Rattle.ld_model.specs.NodeMap.{node_at}
use Rattle.ld_model.specs.Keys.{graph_key, default_graph}

-- The node has more than its id.
abbrev pub has_more : List ℕ × Tree → Bool
has_more (k, object ms) = nat_lt 1 (length (member_list ms))
has_more _ = false

-- The nodes of a graph in the order of their ids, but those with nothing but an id.
abbrev pub nodes_of : Pairs → List Tree
nodes_of graph = each (λ m. m.1) (filter has_more graph)

abbrev pub graph_of : Option Tree → Pairs
graph_of (Some (object ms)) = member_list ms
graph_of _ = []

-- The default graph, with each other graph's nodes under `@graph` at the node of its name.
abbrev pub graph_into : List ℕ × Tree → Pairs → Pairs
graph_into m nodes = put m.0 (object (members_of (put graph_key (array (trees_of (nodes_of (graph_of (Some m.1))))) (node_at m.0 nodes)))) nodes

abbrev pub graphs_into : Pairs → Pairs → Pairs
graphs_into [] nodes = nodes
graphs_into (m ∷ ms) nodes = graphs_into ms (if bytes_eq m.0 default_graph then nodes else graph_into m nodes)

-- The flattened document.
abbrev pub flatten : Pairs → List Tree
flatten graphs = nodes_of (graphs_into graphs (graph_of (member_at default_graph graphs)))
