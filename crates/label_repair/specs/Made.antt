-- The graphs and nodes of a sum under labels, each node as JSON, made one after another.
use Rattle.std.specs.Prelude.{List, [], ◌∷◌}
use Rattle.std.specs.List.{fold}
use Rattle.ld_model.specs.Tree.{Pairs}
use Rattle.node_model.specs.Maps.{MapOf}
use Rattle.node_model.specs.AsTrees.{node_pair}
use Rattle.op_model.specs.Names.{Name}
use Rattle.op_model.specs.Running.{label_in}
use Rattle.sum_model.specs.Sums.{Key, PartEntry, Sum}
use Rattle.shard_model.specs.Renamed.{node_renamed}
use Rattle.label_repair.specs.Finished.{graph_put}

-- Graphs, one after another, each made where it is missing.
abbrev pub graphs_made : List Name → List Name → MapOf Pairs → MapOf Pairs
graphs_made names gs graphs = fold (λ graphs g. graph_put (label_in names g) [] graphs) graphs gs

-- Nodes, one after another, each put at its label in the graph that it is of.
abbrev pub nodes_made : List Name → List (Key × PartEntry) → MapOf Pairs → MapOf Pairs
nodes_made names es graphs = fold (λ graphs e. graph_put (label_in names e.0.0) (node_pair (label_in names e.0.1, node_renamed names e.1) ∷ []) graphs) graphs es

abbrev pub made : List Name → Sum → MapOf Pairs
made names s = nodes_made names s.nodes (graphs_made names s.graphs [])
