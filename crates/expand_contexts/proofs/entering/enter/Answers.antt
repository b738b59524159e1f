use Rattle.std.proofs.Common.{Ok, ap, sym, ◌∙◌}
use Rattle.ctx_entries.specs.View.{tree_view}
use Rattle.ctx_types.specs.ContextView.{context_view}
use Rattle.ctx_model.specs.Outcome.{◌>>=◌}
use Rattle.expand_model.specs.Contexts.{in_map}
use Rattle.expand_types.specs.View.{options_view, scope_view}
use Rattle.expand_contexts.specs.Types.{typing}
use Rattle.expand_contexts.specs.View.{entered_view, typing_view}
use Rattle.expand_contexts.proofs.Carried.{answers_of, answers_refused, passed_on, refuses_then}
use Rattle.expand_contexts.proofs.Steps.{entered_by, map_scope, with_types}
use Rattle.expand_contexts.proofs.entering.enter.Goals as goal

pub returns-in_err-last-clause-entered : goal.returns-in_err-last-clause-entered
returns-in_err-last-clause-entered c =
    let o = options_view c.args.options.now in
    let a = scope_view c.args.scope.now in
    let local = tree_view c.get-local.result in
    let passed = passed_on c.from_residual.result c.in_err-last.field-0.0 c.from_residual.ensures in
    answers_of c.from_residual.result entered_view (entered_by o c.args.members.now a c.leaves-leaves.result local c.leaves-leaves.ensures c.get-local.ensures) (answers_refused c.from_residual.result c.in_err-last.field-0.0 entered_view _ passed (refuses_then c.in_err-last.field-0.0 (in_map o a c.leaves-leaves.result local) (with_types o c.args.members.now a) c.in_err-last.ensures.made))

pub returns-in_err-typing-clause-entered : goal.returns-in_err-typing-clause-entered
returns-in_err-typing-clause-entered c =
    let o = options_view c.args.options.now in
    let a = scope_view c.args.scope.now in
    let local = tree_view c.get-local.result in
    let types = context_view c.get.result.now in
    let passed = passed_on c.from_residual-in_err-typing.result c.in_err-typing.field-0.0 c.from_residual-in_err-typing.ensures in
    answers_of c.from_residual-in_err-typing.result entered_view (entered_by o c.args.members.now a c.leaves-leaves.result local c.leaves-leaves.ensures c.get-local.ensures ∙ ap (λ r. r >>= with_types o c.args.members.now a) c.in_ok-last.ensures.made ∙ ap (with_types o c.args.members.now a) (sym (c.get.ensures ∙ c.in_ok-types.ensures)))
    (answers_refused c.from_residual-in_err-typing.result c.in_err-typing.field-0.0 entered_view _ passed (refuses_then c.in_err-typing.field-0.0 (typing o types c.args.members.now) (λ t. Ok (map_scope a types t)) c.in_err-typing.ensures.typed))

pub returns-clause-entered : goal.returns-clause-entered
returns-clause-entered c =
    let o = options_view c.args.options.now in
    let a = scope_view c.args.scope.now in
    let local = tree_view c.get-local.result in
    let types = context_view c.get.result.now in
    entered_by o c.args.members.now a c.leaves-leaves.result local c.leaves-leaves.ensures c.get-local.ensures
    ∙ ap (λ r. r >>= with_types o c.args.members.now a) c.in_ok-last.ensures.made
    ∙ ap (with_types o c.args.members.now a) (sym (c.get.ensures ∙ c.in_ok-types.ensures))
    ∙ ap (λ r. r >>= (λ t. Ok (map_scope a types t))) c.in_ok-typing.ensures.typed
    ∙ ap (λ x. Ok (map_scope a x (typing_view x c.in_ok-typing.typing))) c.get.ensures
