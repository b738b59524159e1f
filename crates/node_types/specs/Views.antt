-- What the types of the code stand for.
use Rattle.std.specs.Prelude.{Option, Some, None, Result, Err, ◌≡◌, ⊤}
use Rattle.node_model.specs.NodeMap.{Conflict}
use Rattle.node_model.specs.Generating.{Generated}
use Rattle.node_types.specs.declared.generated.Conflict as error
use Rattle.node_types.specs.declared.generated.MapStop.{MapStop}
use Rattle.node_types.specs.declared.generated.MapStop.TheVariants as stop

abbrev pub conflict_view : error.Conflict → Conflict
conflict_view c = record { node = c.node; first = c.first; second = c.second }

abbrev pub conflict_in : Option error.Conflict → Option Conflict
conflict_in (Some c) = Some (conflict_view c)
conflict_in None = None

-- Why there is no node map: a conflict is the one that is due, and memory may be refused at any time.
abbrev pub Stops : Result Generated Conflict → MapStop → Type 0
Stops due (stop.Conflict c) = due ≡ Err (conflict_view c)
Stops due stop.OutOfMemory = ⊤
