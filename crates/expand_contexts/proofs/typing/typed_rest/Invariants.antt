use Rattle.std.proofs.Common.{◌≡◌}
use Rattle.ctx_types.specs.ContextView.{context_view}
use Rattle.expand_model.specs.Contexts.{typed}
use Rattle.expand_types.specs.View.{options_view}
use Rattle.expand_contexts.specs.View.{made_view}
use Rattle.expand_contexts.proofs.typing.typed_rest.Given as goal

-- The entries that are left, from what was made so far.
abbrev pub invariant-loop-key : goal.invariant-loop-key
invariant-loop-key l = typed (options_view l.options) (context_view l.types) l.key-iterator (made_view l.made (context_view l.types)) ≡ typed (options_view l.options) (context_view l.types) l.initial.key-iterator (made_view l.initial.made (context_view l.types))
