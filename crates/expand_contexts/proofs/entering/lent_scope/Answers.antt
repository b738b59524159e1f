use Rattle.std.proofs.Common.{◌≡◌, false, is_some, ap, sym, ◌∙◌, arith}
use Rattle.std.proofs.lemmas.Grind.{common_steps}
use Rattle.ctx_entries.specs.View.{tree_view}
use Rattle.expand_model.specs.Contexts.{scoped_of}
use Rattle.expand_types.specs.View.{scope_view}
use Rattle.expand_contexts.proofs.Steps.{lent_entered}
use Rattle.expand_contexts.proofs.entering.lent_scope.Goals as goal

pub returns : goal.returns
returns c =
    λ o.
    let a = scope_view c.args.scope.now in
    let stays : c.leaves.result ≡ false = grind (arith, common_steps) in
    let none : c.has_scoped.result ≡ false = grind (arith, common_steps) in
    lent_entered o c.args.members.now a c.leaves.result c.in_ok-json.json c.leaves.ensures stays (sym (c.has_scoped.ensures ∙ ap (λ d. is_some (scoped_of d)) c.definition.ensures) ∙ none) (sym (ap tree_view c.in-None.is) ∙ c.get.ensures) (c.in_ok-json.ensures o)
