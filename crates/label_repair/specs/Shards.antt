-- What shards stand for.
use Rattle.std.specs.Prelude.{ℕ, ◌≡◌, List, Option, Some, None, Result, Err, map, ⊤}
use Rattle.std.specs.Global.{Vec}
use Rattle.ld_model.specs.Tree.{Pairs}
use Rattle.ld_tree.specs.View.{members_view}
use Rattle.ld_tree.specs.Built.{built}
use Rattle.ld_tree.specs.declared.value.Tree.{Tree}
use Rattle.node_model.specs.Maps.{MapOf}
use Rattle.node_model.specs.NodeMap.{Conflict}
use Rattle.node_types.specs.Views.{conflict_view}
use Rattle.node_types.specs.declared.generated.MapStop.{MapStop}
use Rattle.node_types.specs.declared.generated.MapStop.TheVariants as stop
use Rattle.node_logs.specs.Views.{shown}
use Rattle.sum_model.specs.Sums.{Place}
use Rattle.shard_model.specs.Renamed as model
use Rattle.label_repair.specs.Finished.{FinishedShard}
use Rattle.label_repair.specs.declared.shard.PlacedConflict.{PlacedConflict}
use Rattle.label_repair.specs.declared.shard.NodeShard.{NodeShard}

abbrev pub place_of : PlacedConflict → Place
place_of c = record { chunk = c.chunk; number = c.op }

abbrev pub placed_view : PlacedConflict → model.PlacedConflict
placed_view c = record { place = place_of c; conflict = conflict_view c.conflict }

abbrev pub conflict_in : Option PlacedConflict → Option model.PlacedConflict
conflict_in (Some c) = Some (placed_view c)
conflict_in None = None

-- The ids of a graph's nodes with their JSON, in any order.
abbrev pub pairs_view : Vec (List ℕ × Tree) → Pairs
pairs_view v = members_view v.items

-- What graphs have once all their pairs are put at their ids.
abbrev pub built_view : List (List ℕ × Vec (List ℕ × Tree)) → MapOf Pairs
built_view gs = shown (λ v. built (pairs_view v)) gs

abbrev pub shard_view : NodeShard → FinishedShard
shard_view s = record { graphs = built_view s.graphs.entries; conflict = conflict_in s.conflict }

abbrev pub shards_view : List NodeShard → List FinishedShard
shards_view ss = map shard_view ss

-- Why there is no node map: a conflict is the one that is due, and memory may be refused at any time.
abbrev pub StopsJoined : Result Pairs Conflict → MapStop → Type 0
StopsJoined due (stop.Conflict c) = due ≡ Err (conflict_view c)
StopsJoined due stop.OutOfMemory = ⊤
