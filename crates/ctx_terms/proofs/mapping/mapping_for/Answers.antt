use Rattle.std.proofs.Common.{ap, sym, ◌∙◌}
use Rattle.ld_tree.specs.View.{view}
use Rattle.ctx_model.specs.Definition.{is_simple}
use Rattle.ctx_model.specs.Creation as steps
use Rattle.ctx_entries.specs.View.{mapping_view, state_view}
use Rattle.ctx_entries.specs.Left.{in_local}
use Rattle.ctx_entries.proofs.Carried.{gives_of}
use Rattle.ctx_terms.proofs.mapping.mapping_for.Goals as goal

pub returns : goal.returns
returns g c =
    gives_of c.mapping_of.result mapping_view (state_view c.mapping_of.new.state)
    (ap (λ i. in_local c.args.local.now steps.mapping_of c.args.term.now.name.now (is_simple (view c.args.term.now.value.now)) i (state_view c.args.state.now)) (sym (c.other_id-id.ensures ∙ ap (steps.other_id c.args.term.now.name.now) c.definition_entry.ensures)))
    c.mapping_of.ensures
