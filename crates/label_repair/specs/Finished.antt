-- Shards whose nodes are finished, and the node map that they make.
use Rattle.std.specs.Prelude.{ℕ, List, [], ◌∷◌, Option, Some, None, Result, Ok, Err, map as each}
use Rattle.std.specs.List.{fold}
use Rattle.ld_model.specs.Tree.{Pairs, object, members_of}
use Rattle.ld_model.specs.Keys.{default_graph}
use Rattle.ld_tree.specs.Built.{put_all}
use Rattle.node_model.specs.Maps.{MapOf, at, with_at}
use Rattle.node_model.specs.NodeMap.{Graphs, Conflict}
use Rattle.node_model.specs.AsTrees.{node_pair}
use Rattle.node_logs.specs.Views.{shown}
use Rattle.shard_model.specs.Renamed.{PlacedConflict, Shard}
use Rattle.shard_model.specs.Joined.{earlier_of}

-- Part of a node map: of each graph the ids of its nodes with their JSON, and the first conflict in it.
pub record FinishedShard : Type 0 where
  pub graphs : MapOf Pairs
  pub conflict : Option PlacedConflict

-- Each node of each graph as JSON.
abbrev pub graphs_finished : Graphs → MapOf Pairs
graphs_finished graphs = shown (each node_pair) graphs

abbrev pub finished : Shard → FinishedShard
finished s = record { graphs = graphs_finished s.graphs; conflict = s.conflict }

-- Of what is missing, nothing is there.
abbrev pub pairs_or_none : Option Pairs → Pairs
pairs_or_none (Some ps) = ps
pairs_or_none None = []

-- The graphs with these pairs put into one of them, each at its id. The graph is made where it is missing.
abbrev pub graph_put : List ℕ → Pairs → MapOf Pairs → MapOf Pairs
graph_put g ps graphs = with_at g (put_all ps (pairs_or_none (at g graphs))) graphs

abbrev pub pairs_put : MapOf Pairs → MapOf Pairs → MapOf Pairs
pairs_put more graphs = fold (λ graphs g. graph_put g.0 g.1 graphs) graphs more

-- All graphs of all shards, each with the pairs of every shard in it. The default graph is there in any case.
abbrev pub default_pairs : MapOf Pairs
default_pairs = (default_graph, []) ∷ []

abbrev pub pairs_joined : List FinishedShard → MapOf Pairs
pairs_joined shards = fold (λ graphs s. pairs_put s.graphs graphs) default_pairs shards

-- The conflict that comes first in the document.
abbrev pub conflict_joined : List FinishedShard → Option PlacedConflict
conflict_joined shards = fold (λ c s. earlier_of c s.conflict) None shards

-- The first conflict, or else each graph as a map of its nodes.
abbrev pub graph_trees : MapOf Pairs → Pairs
graph_trees graphs = shown (λ ps. object (members_of ps)) graphs

abbrev pub outcome_of : Option PlacedConflict → MapOf Pairs → Result Pairs Conflict
outcome_of (Some c) graphs = Err c.conflict
outcome_of None graphs = Ok (graph_trees graphs)

abbrev pub finished_joined : List FinishedShard → Result Pairs Conflict
finished_joined shards = outcome_of (conflict_joined shards) (pairs_joined shards)
