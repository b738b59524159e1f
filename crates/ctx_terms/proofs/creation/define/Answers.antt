use Rattle.std.proofs.Common.{◌≡◌, Ok, ap, sym, ◌∙◌}
use Rattle.std.specs.Prelude.{codes}
use Rattle.ld_model.specs.Tree.{member_at}
use Rattle.ld_tree.specs.View.{view}
use Rattle.ctx_model.specs.Definition.{entries_of, protected_by}
use Rattle.ctx_model.specs.Creation as steps
use Rattle.ctx_entries.specs.View.{local_view, state_view}
use Rattle.ctx_entries.specs.Left.{creation, in_local, scoped_view}
use Rattle.ctx_terms.specs.View.{previous_view}
use Rattle.ctx_entries.proofs.Carried.{leaves_of}
use Rattle.ctx_terms.proofs.Steps.{define_step}
use Rattle.ctx_terms.proofs.creation.define.Goals as goal

pub returns : goal.returns
returns g c =
    let protected : protected_by (local_view c.args.local.now).protected (member_at (codes "@protected") (entries_of (view c.args.term.now.value.now))) ≡ Ok c.in_ok-protected.protected =
    ap (protected_by (local_view c.args.local.now).protected) (sym c.definition_entry.ensures) ∙ sym c.protected_by.ensures ∙ c.in_ok-protected.was in
    let kind : in_local c.args.local.now steps.kind_of (member_at (codes "@type") (entries_of (view c.args.term.now.value.now))) (state_view c.args.state.now) ≡ Ok (c.in_ok-kind.kind, state_view c.kind_of.new.state) =
    ap (λ i. in_local c.args.local.now steps.kind_of i (state_view c.args.state.now)) (sym c.definition_entry-2.ensures) ∙ c.in_ok-kind.ensures in
    leaves_of c.direct.result (state_view c.direct.new.state)
    (define_step (λ t v s. creation c.args.local.now t v s) (λ x v. scoped_view c.args.local.now x v) (local_view c.args.local.now) c.args.term.now.name.now (view c.args.term.now.value.now) (previous_view c.args.previous.now) (state_view c.args.state.now) (state_view c.kind_of.new.state) c.in_ok-protected.protected c.in_ok-kind.kind protected kind)
    c.direct.ensures
