use Rattle.std.proofs.Common.{◌≡◌, false, is_some, Ok, ap, sym, ◌∙◌, arith}
use Rattle.std.proofs.lemmas.Grind.{common_steps}
use Rattle.ctx_types.specs.ContextView.{context_view}
use Rattle.expand_model.specs.Contexts.{scoped_of}
use Rattle.expand_types.specs.View.{options_view, scope_view}
use Rattle.expand_contexts.specs.View.{active_view}
use Rattle.expand_contexts.proofs.Carried.{answers_of, answers_refused, passed_on}
use Rattle.expand_contexts.proofs.Steps.{in_map_alone, without_scoped}
use Rattle.expand_contexts.proofs.entering.scalar_context.Goals as goal

pub returns-then-not-has_scoped-clause-context : goal.returns-then-not-has_scoped-clause-context
returns-then-not-has_scoped-clause-context c =
    let none : c.has_scoped.result ≡ false = grind (arith, common_steps) in
    without_scoped (options_view c.args.options.now) _ (context_view c.args.scope.now.context.now) (sym (c.has_scoped.ensures ∙ ap (λ d. is_some (scoped_of d)) c.definition.ensures) ∙ none)

pub returns-in_err-last-clause-context : goal.returns-in_err-last-clause-context
returns-in_err-last-clause-context c =
    let passed = passed_on c.from_residual.result c.in_err-last.field-0.0 c.from_residual.ensures in
    answers_of c.from_residual.result active_view (in_map_alone (options_view c.args.options.now) (scope_view c.args.scope.now)) (answers_refused c.from_residual.result c.in_err-last.field-0.0 active_view _ passed c.in_err-last.ensures.made)

pub returns-clause-context : goal.returns-clause-context
returns-clause-context c =
    in_map_alone (options_view c.args.options.now) (scope_view c.args.scope.now) ∙ c.in_ok-last.ensures.made ∙ ap (λ x. Ok x) (sym c.in_ok-context.ensures)
