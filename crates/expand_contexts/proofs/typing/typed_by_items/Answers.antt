use Rattle.std.proofs.Common.{◌≡◌, false, sym, ◌∙◌, arith}
use Rattle.std.proofs.lemmas.Grind.{common_steps}
use Rattle.ctx_types.specs.ContextView.{context_view}
use Rattle.expand_types.specs.View.{options_view}
use Rattle.expand_contexts.specs.View.{made_view}
use Rattle.expand_contexts.proofs.Steps.{none_scoped}
use Rattle.expand_contexts.proofs.typing.typed_by_items.Goals as goal

pub returns-then-not-have_scoped : goal.returns-then-not-have_scoped
returns-then-not-have_scoped c =
    let none : c.have_scoped.result ≡ false = grind (arith, common_steps) in
    none_scoped (options_view c.args.options.now) (context_view c.args.types.now) c.args.items.now (made_view c.args.made (context_view c.args.types.now)) (sym c.have_scoped.ensures ∙ none)
