use Rattle.std.proofs.Common.{◌≡◌, false, ap, sym, ◌∙◌}
use Rattle.ld_tree.specs.View.{view}
use Rattle.ctx_model.specs.Definition.{is_simple}
use Rattle.ctx_model.specs.Creation as steps
use Rattle.ctx_entries.specs.View.{local_view, mapping_view, state_view}
use Rattle.ctx_entries.specs.Left.{creation, in_local, scoped_view}
use Rattle.ctx_entries.proofs.Carried.{gives_of}
use Rattle.ctx_terms.proofs.Steps.{id_step}
use Rattle.ctx_terms.proofs.mapping.id_mapping.Goals as goal

pub returns-else-is_reserved : goal.returns-else-is_reserved
returns-else-is_reserved g c =
    let free : steps.is_reserved c.in-Str.text ≡ false = ap steps.is_reserved (sym c.as_str.ensures) ∙ sym c.is_reserved.ensures ∙ c.if-is_reserved.false in
    gives_of c.id_named.result mapping_view (state_view c.id_named.new.state)
    (ap (λ v. in_local c.args.local.now steps.id_mapping c.args.term.now.name.now (is_simple (view c.args.term.now.value.now)) (view v) (state_view c.args.state.now)) c.in-Str.is
    ∙ id_step (λ t v s. creation c.args.local.now t v s) (λ x v. scoped_view c.args.local.now x v) (local_view c.args.local.now) c.args.term.now.name.now c.in-Str.text (is_simple (view c.args.term.now.value.now)) (state_view c.args.state.now) free
    ∙ ap (λ x. in_local c.args.local.now steps.id_named c.args.term.now.name.now (is_simple (view c.args.term.now.value.now)) x (state_view c.args.state.now)) (sym c.as_str-else-is_reserved.ensures))
    c.id_named.ensures
