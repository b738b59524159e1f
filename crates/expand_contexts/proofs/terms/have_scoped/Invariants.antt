use Rattle.std.proofs.Common.{◌≡◌}
use Rattle.std.specs.List.{list_any}
use Rattle.ctx_types.specs.ContextView.{settings_view}
use Rattle.expand_contexts.specs.Types.{is_scoped}
use Rattle.expand_contexts.proofs.terms.have_scoped.Given as goal

-- The values that are left decide.
abbrev pub invariant-loop-item : goal.invariant-loop-item
invariant-loop-item l = list_any (is_scoped (settings_view l.types)) l.item-iterator ≡ list_any (is_scoped (settings_view l.types)) l.items
