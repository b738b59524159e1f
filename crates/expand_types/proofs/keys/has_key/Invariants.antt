use Rattle.std.proofs.Common.{◌≡◌}
use Rattle.ctx_types.specs.ContextView.{settings_view}
use Rattle.expand_model.specs.Scope.{has_key}
use Rattle.expand_types.proofs.keys.has_key.Given as goal

-- The keys that are left decide.
abbrev pub invariant-loop-key : goal.invariant-loop-key
invariant-loop-key l = has_key (settings_view l.context) l.word l.key-iterator ≡ has_key (settings_view l.context) l.word l.members
