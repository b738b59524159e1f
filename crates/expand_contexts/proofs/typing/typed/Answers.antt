use Rattle.std.proofs.Common.{◌≡◌, Ok, Some, ap, sym, ◌∙◌}
use Rattle.std.specs.Option.{option_map}
use Rattle.ctx_types.specs.ContextView.{context_view, settings_view}
use Rattle.ctx_model.specs.Outcome.{◌>>=◌}
use Rattle.ld_tree.specs.View.{view}
use Rattle.expand_model.specs.Contexts.{is_json, typed, typed_by_all, type_terms}
use Rattle.expand_types.specs.View.{options_view}
use Rattle.expand_contexts.specs.Types.{first_type}
use Rattle.expand_contexts.specs.View.{made_view, typing_view}
use Rattle.expand_contexts.proofs.Carried.{answers_of, answers_refused, passed_on, refuses_then}
use Rattle.expand_contexts.proofs.Steps.{behind, no_types, typing_from, with_rest}
use Rattle.expand_contexts.proofs.typing.typed.Goals as goal

pub returns-in_default-clause-typed : goal.returns-in_default-clause-typed
returns-in_default-clause-typed c =
    no_types (options_view c.args.options.now) (context_view c.args.types.now) c.args.members.now (sym (ap (option_map (with_rest c.next_type.new.entries)) c.in_default.is) ∙ c.next_type.ensures ∙ ap (first_type (settings_view c.args.types.now)) c.iter-entries.ensures.members)

pub returns-in_err-made-clause-typed : goal.returns-in_err-made-clause-typed
returns-in_err-made-clause-typed c =
    let o = options_view c.args.options.now in
    let types = context_view c.args.types.now in
    let rest = c.next_type.new.entries in
    let first : Some (with_rest rest c.in-Some.value) ≡ first_type types.current c.args.members.now = sym (ap (option_map (with_rest rest)) c.in-Some.is) ∙ c.next_type.ensures ∙ ap (first_type (settings_view c.args.types.now)) c.iter-entries.ensures.members in
    let passed = passed_on c.from_residual.result c.in_err-made.field-0.0 c.from_residual.ensures in
    answers_of c.from_residual.result (typing_view types) (typing_from o types c.args.members.now (view c.in-Some.value.now) rest first) (answers_refused c.from_residual.result c.in_err-made.field-0.0 (typing_view types) _ passed (refuses_then c.in_err-made.field-0.0 (typed_by_all o types (type_terms (view c.in-Some.value.now)) types) (behind o types c.args.members.now rest) c.in_err-made.ensures.typed))

pub returns-in_err-made-2-clause-typed : goal.returns-in_err-made-2-clause-typed
returns-in_err-made-2-clause-typed c =
    let o = options_view c.args.options.now in
    let types = context_view c.args.types.now in
    let rest = c.next_type.new.entries in
    let first : Some (with_rest rest c.in-Some.value) ≡ first_type types.current c.args.members.now = sym (ap (option_map (with_rest rest)) c.in-Some.is) ∙ c.next_type.ensures ∙ ap (first_type (settings_view c.args.types.now)) c.iter-entries.ensures.members in
    let passed = passed_on c.from_residual-in_err-made-2.result c.in_err-made-2.field-0.0 c.from_residual-in_err-made-2.ensures in
    answers_of c.from_residual-in_err-made-2.result (typing_view types) (typing_from o types c.args.members.now (view c.in-Some.value.now) rest first ∙ ap (λ r. r >>= behind o types c.args.members.now rest) c.in_ok-made.ensures.typed)
    (answers_refused c.from_residual-in_err-made-2.result c.in_err-made-2.field-0.0 (typing_view types) _ passed (refuses_then c.in_err-made-2.field-0.0 (typed o types rest (made_view c.in_ok-made.made types)) (λ x. Ok (x, is_json x.current c.args.members.now)) c.in_err-made-2.ensures))

pub returns-clause-typed : goal.returns-clause-typed
returns-clause-typed c =
    let o = options_view c.args.options.now in
    let types = context_view c.args.types.now in
    let rest = c.next_type.new.entries in
    let first : Some (with_rest rest c.in-Some.value) ≡ first_type types.current c.args.members.now = sym (ap (option_map (with_rest rest)) c.in-Some.is) ∙ c.next_type.ensures ∙ ap (first_type (settings_view c.args.types.now)) c.iter-entries.ensures.members in
    typing_from o types c.args.members.now (view c.in-Some.value.now) rest first
    ∙ ap (λ r. r >>= behind o types c.args.members.now rest) c.in_ok-made.ensures.typed
    ∙ ap (λ r. r >>= (λ x. Ok (x, is_json x.current c.args.members.now))) c.in_ok-made-2.ensures
    ∙ ap (λ b. Ok (made_view c.in_ok-made-2.made types, b)) (sym (c.is_json_now-json.ensures rest (sym first)))
