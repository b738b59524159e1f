use Rattle.std.proofs.Common.{◌≡◌, ◌<◌, None, arith}
use Rattle.std.proofs.lemmas.Grind.{common_steps}
use Rattle.ld_tree.specs.View.{view}
use Rattle.ctx_model.specs.State.{mark_of}
use Rattle.ctx_entries.specs.View.{local_view, state_view}
use Rattle.ctx_entries.specs.Left.{scoped_view}
use Rattle.ctx_entries.proofs.Carried.{leaves_of}
use Rattle.ctx_terms.proofs.Steps.{create_step}
use Rattle.ctx_terms.proofs.creation.+terms.Goals as goal

pub create_undefined-returns : goal.create_undefined-returns
create_undefined-returns g t c =
    let left : 0 < c.args.local.now.left = grind (arith, common_steps) in
    let undone : mark_of c.args.term.now (state_view c.args.state.now) ≡ None = grind (arith, common_steps) in
    leaves_of c.create_new.result (state_view c.create_new.new.state)
    (create_step (λ x v. scoped_view c.args.local.now x v) (local_view c.args.local.now) c.args.local.now.left c.args.term.now (view c.args.value.now) (state_view c.args.state.now) left undone)
    c.create_new.ensures
