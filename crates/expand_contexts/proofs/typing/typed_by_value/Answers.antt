use Rattle.std.proofs.Common.{ap}
use Rattle.ctx_types.specs.ContextView.{context_view}
use Rattle.ld_tree.specs.View.{view}
use Rattle.expand_model.specs.Contexts.{typed_by_all}
use Rattle.expand_types.specs.View.{options_view}
use Rattle.expand_contexts.specs.View.{made_view}
use Rattle.expand_contexts.proofs.Carried.{answers_of}
use Rattle.expand_contexts.proofs.Steps.{terms_of_items}
use Rattle.expand_contexts.proofs.typing.typed_by_value.Goals as goal

pub returns-in-Items : goal.returns-in-Items
returns-in-Items c =
    answers_of c.typed_by_items.result (λ m. made_view m (context_view c.args.types.now))
    (ap (λ ts. typed_by_all (options_view c.args.options.now) (context_view c.args.types.now) ts (made_view c.args.made (context_view c.args.types.now))) (terms_of_items (view c.args.value.now) c.in-Items.items (ap view c.in-Items.is)))
    c.typed_by_items.ensures
