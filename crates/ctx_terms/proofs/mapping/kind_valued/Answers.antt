use Rattle.std.proofs.Common.{ap, sym, ◌∙◌}
use Rattle.ld_tree.specs.View.{view}
use Rattle.ctx_model.specs.Creation as steps
use Rattle.ctx_entries.specs.View.{state_view}
use Rattle.ctx_entries.specs.Left.{in_local}
use Rattle.ctx_entries.proofs.Carried.{gives_of}
use Rattle.ctx_terms.proofs.mapping.kind_valued.Goals as goal

pub returns-in-Str : goal.returns-in-Str
returns-in-Str g c =
    gives_of c.kind_named.result (λ k. k) (state_view c.kind_named.new.state)
    (ap (λ v. in_local c.args.local.now steps.kind_valued (view v) (state_view c.args.state.now)) c.in-Str.is ∙ ap (λ x. in_local c.args.local.now steps.kind_named x (state_view c.args.state.now)) (sym c.as_str.ensures))
    c.kind_named.ensures
