use Rattle.std.proofs.Common.{◌≡◌, Ok, Err, ap, sym, ◌∙◌, arith, length}
use Rattle.std.proofs.lemmas.Grind.{common_steps}
use Rattle.ctx_types.specs.ContextView.{context_view}
use Rattle.ctx_model.specs.Outcome.{◌>>=◌}
use Rattle.ctx_model.specs.Words.{is_true}
use Rattle.ctx_entries.specs.Left.{scoped_of}
use Rattle.ctx_entries.specs.View.{ask_view, entries_view, pairs_view}
use Rattle.ctx_entries.proofs.Carried.{leaves_of, leaves_passed}
use Rattle.ctx_process.proofs.ContextSteps.{length-pairs_view, terms_step}
use Rattle.ctx_process.proofs.map.create_all.Goals as goal

pub returns-in_err-create_terms : goal.returns-in_err-create_terms
returns-in_err-create_terms g c =
    let counted : c.len.result ≡ length c.in_ok-pairs.pairs.items = grind (arith, common_steps) in
    let passed : c.from_residual-in_err-create_terms.result ≡ Err c.in_err-create_terms.field-0.0 = grind (arith, common_steps) in
    leaves_of c.from_residual-in_err-create_terms.result (context_view c.create_terms.new.state.context)
    (terms_step c.args.ask.now.store.now (λ a t. scoped_of c.args.ask.now.store.now c.args.ask.now.remote_left c.args.ask.now.scoped_left a t) (ask_view c.args.ask.now) (entries_view c.args.entries.now) (context_view c.args.state.now.context) c.is_true.result c.len.result (pairs_view c.as_slice.result.now) c.new.result
    (c.is_true.ensures ∙ ap is_true c.get.ensures) (counted ∙ sym (length-pairs_view c.in_ok-pairs.pairs.items) ∙ ap length c.in_ok-pairs.ensures) (ap pairs_view c.as_slice.ensures.value ∙ c.in_ok-pairs.ensures) c.new.ensures)
    (leaves_passed c.from_residual-in_err-create_terms.result c.in_err-create_terms.field-0.0 _ _ _ passed c.in_err-create_terms.ensures)

pub returns : goal.returns
returns g c =
    let counted : c.len.result ≡ length c.in_ok-pairs.pairs.items = grind (arith, common_steps) in
    terms_step c.args.ask.now.store.now (λ a t. scoped_of c.args.ask.now.store.now c.args.ask.now.remote_left c.args.ask.now.scoped_left a t) (ask_view c.args.ask.now) (entries_view c.args.entries.now) (context_view c.args.state.now.context) c.is_true.result c.len.result (pairs_view c.as_slice.result.now) c.new.result
    (c.is_true.ensures ∙ ap is_true c.get.ensures) (counted ∙ sym (length-pairs_view c.in_ok-pairs.pairs.items) ∙ ap length c.in_ok-pairs.ensures) (ap pairs_view c.as_slice.ensures.value ∙ c.in_ok-pairs.ensures) c.new.ensures
    ∙ ap (λ d. d >>= (λ s. Ok s.context)) c.in_ok-create_terms.ensures
