-- Shards, put together.
use Rattle.std.specs.Prelude.{ℕ, ◌≡◌, List, [], ◌∷◌, Bool, true, false, if◌then◌else◌, Option, Some, None, is_some, Result, Ok, Err, ⊤}
use Rattle.std.specs.List.{fold, AllByRecursion}
use Rattle.ld_model.specs.Tree.{Pairs}
use Rattle.node_model.specs.Maps.{at, with_at}
use Rattle.node_model.specs.NodeMap.{Graph, Graphs, Conflict, graph_in, on_graph}
use Rattle.node_model.specs.AsTrees.{graph_pairs}
use Rattle.node_model.specs.Generating.{Generated, empty}
use Rattle.sum_model.specs.Conflicts.{is_before}
use Rattle.shard_model.specs.Renamed.{PlacedConflict, Shard}

-- The nodes of a graph, and those of graphs, beside others.
abbrev pub nodes_added : Graph → Graph → Graph
nodes_added more nodes = fold (λ nodes n. with_at n.0 n.1 nodes) nodes more

abbrev pub graphs_added : Graphs → Graphs → Graphs
graphs_added more graphs = fold (λ graphs g. on_graph g.0 (nodes_added g.1) graphs) graphs more

-- All graphs of all shards, each with the nodes that any shard has in it. The default graph is there in any case.
abbrev pub graphs_joined : List Shard → Graphs
graphs_joined shards = fold (λ graphs s. graphs_added s.graphs graphs) empty.graphs shards

-- The conflict that comes first in the document.
abbrev pub earlier_of : Option PlacedConflict → Option PlacedConflict → Option PlacedConflict
earlier_of None b = b
earlier_of (Some a) None = Some a
earlier_of (Some a) (Some b) = if is_before b.place a.place then Some b else Some a

abbrev pub conflict_joined : List Shard → Option PlacedConflict
conflict_joined shards = fold (λ c s. earlier_of c s.conflict) None shards

-- The first conflict, or else the node map.
abbrev pub outcome_of : Option PlacedConflict → Graphs → Result Pairs Conflict
outcome_of (Some c) graphs = Err c.conflict
outcome_of None graphs = Ok (graph_pairs graphs)

abbrev pub joined : List Shard → Result Pairs Conflict
joined shards = outcome_of (conflict_joined shards) (graphs_joined shards)

-- The same, with how many labels were issued.
abbrev pub with_count : ℕ → Result Pairs Conflict → Result Generated Conflict
with_count issued (Ok graphs) = Ok (record { graphs = graphs; issued = issued })
with_count issued (Err c) = Err c

-- Whether a node is there in a graph.
abbrev pub has_node : List ℕ → List ℕ → Graphs → Bool
has_node g id graphs = is_some (at id (graph_in g graphs))

-- No node of a graph is there in two of these shards.
abbrev pub HaveNoNodeTwice : List Shard → Type 0
HaveNoNodeTwice [] = ⊤
HaveNoNodeTwice (s ∷ shards) = AllByRecursion (λ t. (g id : List ℕ) → has_node g id s.graphs ≡ true → has_node g id t.graphs ≡ false) shards × HaveNoNodeTwice shards
