use Rattle.std.proofs.Common.{◌≡◌, length}
use Rattle.ctx_types.specs.ContextView.{settings_view}
use Rattle.expand_contexts.specs.Types.{first_type}
use Rattle.expand_contexts.proofs.typing.next_type.Given as goal

-- The first type of the entries that are left is that of all.
abbrev pub invariant-loop-key : goal.invariant-loop-key
invariant-loop-key l = first_type (settings_view l.context) l.entries ≡ first_type (settings_view l.context) l.initial.entries

abbrev pub decreases-loop-key : goal.decreases-loop-key
decreases-loop-key l = length l.entries
