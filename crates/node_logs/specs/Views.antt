-- What the maps of the code stand for.
use Rattle.std.specs.Prelude.{ℕ, List, map, Bool, false, ◌&&◌, Option, Some, None}
use Rattle.std.specs.Str.{bytes_eq}
use Rattle.std.specs.BTreeMap.{BTreeMap}
use Rattle.node_model.specs.NodeMap.{Graph, Graphs, on_node}
use Rattle.node_logs.specs.Log.{node_view, node_told}
use Rattle.node_logs.specs.declared.node.Node.{Node}
use Rattle.node_logs.specs.declared.gathered.Row.{Row}
use Rattle.node_logs.specs.declared.gathered.Gathered.{Gathered}

-- A map with each value seen as what it stands for.
abbrev pub shown : {V W : Type 0} → (V → W) → List (List ℕ × V) → List (List ℕ × W)
shown f es = map (λ e. (e.0, f e.1)) es

abbrev pub graph_view : List (List ℕ × Node) → Graph
graph_view es = shown node_view es

abbrev pub graphs_view : List (List ℕ × BTreeMap (List ℕ) Node) → Graphs
graphs_view es = shown (λ g. graph_view g.entries) es

-- A row is of this node of this graph.
abbrev pub is_row_of : List ℕ → List ℕ → Option Row → Bool
is_row_of g id (Some r) = bytes_eq r.graph g && bytes_eq r.id id
is_row_of g id None = false

-- Graphs once what is in a row was told.
abbrev pub row_told : Option Row → Graphs → Graphs
row_told (Some r) graphs = on_node r.graph r.id (node_told r.node) graphs
row_told None graphs = graphs

abbrev pub gathered_view : Gathered → Graphs
gathered_view g = row_told g.row (graphs_view g.noted.entries)
