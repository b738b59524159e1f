use Rattle.std.proofs.Common.{◌≡◌, true, false, ap, sym, ◌∙◌, arith}
use Rattle.std.proofs.lemmas.Grind.{common_steps}
use Rattle.ld_tree.specs.View.{view}
use Rattle.ctx_types.specs.Expansion.{has_keyword_form}
use Rattle.ctx_model.specs.Definition.{entries_of}
use Rattle.ctx_model.specs.Creation as steps
use Rattle.ctx_entries.specs.View.{local_view, state_view}
use Rattle.ctx_entries.specs.Left.{creation, in_local, scoped_view}
use Rattle.ctx_entries.proofs.Carried.{leaves_of}
use Rattle.ctx_terms.proofs.Steps.{reverse_step}
use Rattle.ctx_terms.proofs.mapping.create_reverse.Goals as goal

pub returns-else-has_keyword_form : goal.returns-else-has_keyword_form
returns-else-has_keyword_form g c =
    let es = entries_of (view c.args.term.now.value.now) in
    let alone : steps.is_reverse_alone (entries_of (view c.args.term.now.value.now)) ≡ true = grind (arith, common_steps) in
    let free : has_keyword_form c.in-Str.text ≡ false = ap has_keyword_form (sym c.as_str.ensures) ∙ sym c.has_keyword_form.ensures ∙ c.if-has_keyword_form.false in
    leaves_of c.reverse_named.result (state_view c.reverse_named.new.state)
    (ap (λ v. in_local c.args.local.now steps.reverse_created c.args.term.now.name.now (view v) es c.args.settled.protected c.args.settled.kind (state_view c.args.state.now)) c.in-Str.is
    ∙ reverse_step (λ t v s. creation c.args.local.now t v s) (λ x v. scoped_view c.args.local.now x v) (local_view c.args.local.now) c.args.term.now.name.now c.in-Str.text es c.args.settled.protected c.args.settled.kind (state_view c.args.state.now) alone free
    ∙ ap (λ x. in_local c.args.local.now steps.reverse_named c.args.term.now.name.now x es c.args.settled.protected c.args.settled.kind (state_view c.args.state.now)) (sym c.as_str-else-has_keyword_form.ensures))
    c.reverse_named.ensures
