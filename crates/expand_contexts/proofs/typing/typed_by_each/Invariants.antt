use Rattle.std.proofs.Common.{◌≡◌, map}
use Rattle.ctx_types.specs.ContextView.{context_view}
use Rattle.expand_model.specs.Contexts.{typed_by_all}
use Rattle.expand_types.specs.View.{options_view}
use Rattle.expand_contexts.specs.View.{made_view}
use Rattle.expand_contexts.proofs.typing.typed_by_each.Given as goal

-- The types that are left, from what was made so far.
abbrev pub invariant-loop-term : goal.invariant-loop-term
invariant-loop-term l =
    typed_by_all (options_view l.options) (context_view l.types) (map (λ t. t.now) l.term-iterator.rest.items) (made_view l.made (context_view l.types)) ≡ typed_by_all (options_view l.options) (context_view l.types) (map (λ t. t.now) l.initial.term-iterator.rest.items) (made_view l.initial.made (context_view l.types))
