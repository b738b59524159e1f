-- What a sum of operations stands for once labels are put in place of names.
use Rattle.std.specs.Prelude.{List, [], Option, option_map, map as each}
use Rattle.std.specs.List.{fold}
use Rattle.ld_model.specs.Tree.{Tree}
use Rattle.node_model.specs.Maps.{MapOf, with_at}
use Rattle.node_model.specs.NodeMap.{Node, Graphs, Conflict, on_graph, on_node}
use Rattle.op_model.specs.Names.{Name}
use Rattle.op_model.specs.Ops.{Entry}
use Rattle.op_model.specs.Running.{label_in, entry_in}
use Rattle.sum_model.specs.Sums.{Place, Key, PartEntry, Sum}
use Rattle.sum_model.specs.Conflicts.{ConflictAt, first_conflict}

-- Properties, one after another, each put at its label with its entries.
abbrev pub properties_put : List Name → List (Name × List Entry) → MapOf (List Tree) → MapOf (List Tree)
properties_put names ps m = fold (λ m p. with_at (label_in names p.0) (each (entry_in names) p.1) m) m ps

abbrev pub node_renamed : List Name → PartEntry → Node
node_renamed names e = record {
  types = each (label_in names) e.types;
  index = option_map (λ i. i.text) e.index;
  properties = properties_put names e.properties [];
}

-- Graphs, one after another, each made where it is missing.
abbrev pub graphs_put : List Name → List Name → Graphs → Graphs
graphs_put names gs graphs = fold (λ graphs g. on_graph (label_in names g) (λ nodes. nodes) graphs) graphs gs

-- Nodes, one after another, each put at its label in the graph that it is of.
abbrev pub nodes_put : List Name → List (Key × PartEntry) → Graphs → Graphs
nodes_put names es graphs = fold (λ graphs e. on_node (label_in names e.0.0) (label_in names e.0.1) (λ n. node_renamed names e.1) graphs) graphs es

-- The graphs and the nodes of a sum, beside others.
abbrev pub sum_put : List Name → Sum → Graphs → Graphs
sum_put names s graphs = nodes_put names s.nodes (graphs_put names s.graphs graphs)

abbrev pub renamed : List Name → Sum → Graphs
renamed names s = sum_put names s []

-- A conflict of indexes, and where it is.
pub record PlacedConflict : Type 0 where
  pub place : Place
  pub conflict : Conflict

abbrev pub conflict_renamed : List Name → ConflictAt → PlacedConflict
conflict_renamed names c = record { place = c.place; conflict = record { node = label_in names c.node; first = c.first; second = c.second } }

-- Part of a node map, with the first conflict in it.
pub record Shard : Type 0 where
  pub graphs : Graphs
  pub conflict : Option PlacedConflict

abbrev pub shard_renamed : List Name → Sum → Shard
shard_renamed names s = record { graphs = renamed names s; conflict = option_map (conflict_renamed names) (first_conflict s) }
