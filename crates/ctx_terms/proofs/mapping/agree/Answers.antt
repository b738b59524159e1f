use Rattle.std.proofs.Common.{◌≡◌, true, ap, sym, ◌∙◌}
use Rattle.ctx_model.specs.Creation as steps
use Rattle.ctx_entries.specs.View.{local_view, state_view}
use Rattle.ctx_entries.specs.Left.{creation, in_local, scoped_view}
use Rattle.ctx_entries.proofs.Carried.{leaves_of}
use Rattle.ctx_terms.proofs.Steps.{agreeing_step}
use Rattle.ctx_terms.proofs.mapping.agree.Goals as goal

pub returns-in_ok-mark : goal.returns-in_ok-mark
returns-in_ok-mark g c =
    let test : steps.is_compared c.args.term.now ≡ true = sym c.is_compared.ensures ∙ c.if-is_compared.true in
    leaves_of c.own_agrees.result (state_view c.own_agrees.new.state)
    (agreeing_step (λ t v s. creation c.args.local.now t v s) (λ x v. scoped_view c.args.local.now x v) (local_view c.args.local.now) c.args.term.now c.args.iri.now (state_view c.args.state.now) test
    ∙ ap (λ s. in_local c.args.local.now steps.own_agrees c.args.term.now c.args.iri.now s) (sym c.in_ok-mark.ensures))
    c.own_agrees.ensures
