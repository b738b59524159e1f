-- Each call goes into fewer calls that may be under way, or down a rank.
use Rattle.std.proofs.Common.{◌≡◌, ◌+◌, ◌*◌}
use Rattle.ctx_types.specs.ContextView.{context_view}
use Rattle.ctx_model.specs.Process.{items_taken}
use Rattle.ctx_entries.specs.Left.{in_call}
use Rattle.ctx_entries.specs.View.{ask_view}
use Rattle.ctx_process.proofs.processing.+contexts.Given as goal

abbrev pub decreases-process_within : goal.decreases-process_within
decreases-process_within l = 8 * l.ask.now.room + 7

abbrev pub decreases-take_items : goal.decreases-take_items
decreases-take_items l = 8 * l.ask.now.room + 6

abbrev pub decreases-take_each : goal.decreases-take_each
decreases-take_each l = 8 * l.ask.now.room + 5

abbrev pub decreases-take_item : goal.decreases-take_item
decreases-take_item l = 8 * l.ask.now.room + 4

abbrev pub decreases-take_remote : goal.decreases-take_remote
decreases-take_remote l = 8 * l.ask.now.room + 3

abbrev pub decreases-process_remote : goal.decreases-process_remote
decreases-process_remote l = 8 * l.ask.now.room + 2

abbrev pub decreases-take_map : goal.decreases-take_map
decreases-take_map l = 8 * l.ask.now.room + 3

abbrev pub decreases-take_map-try_scoped : goal.decreases-take_map-try_scoped
decreases-take_map-try_scoped l = 8 * l.ask.now.room + 2

abbrev pub decreases-try_context : goal.decreases-try_context
decreases-try_context l = 8 * l.ask.now.room + 1

-- The items that are left, taken from here, come to what all of them come to.
abbrev pub invariant-take_each-loop-item : goal.invariant-take_each-loop-item
invariant-take_each-loop-item l = in_call l.ask items_taken l.propagates (ask_view l.ask) l.item-iterator (context_view l.state.context) ≡ in_call l.ask items_taken l.propagates (ask_view l.ask) l.items (context_view l.initial.state.context)
