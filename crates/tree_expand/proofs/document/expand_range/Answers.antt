use Rattle.std.proofs.Common.{ap, ◌∙◌, []}
use Rattle.ld_model.specs.Tree.{trees_of}
use Rattle.ld_tree.specs.View.{trees_view}
use Rattle.ctx_types.specs.ContextView.{context_view}
use Rattle.expand_model.specs.Expand.{items}
use Rattle.expand_types.specs.View.{word_view}
use Rattle.range_laws.specs.Right.{expands_each, keeps_each}
use Rattle.range_laws.proofs.Plain.{items_run}
use Rattle.tree_expand.proofs.Steps.{answers_of}
use Rattle.tree_expand.proofs.document.expand_range.Goals as goal

pub returns : goal.returns
returns c =
    answers_of c.items.result (λ ts. ts) c.items.new.ranges _ _
    (items_run (record { base = word_view c.args.base; contexts = c.args.store.now }) expands_each keeps_each (λ ts n a s. tt {0}) (trees_of (trees_view c.args.items.now)) c.args.first
    (record { scope = record { context = context_view c.args.context.now; property = word_view c.word.result; from_map = c.args.from_map }; place = c.args.place.now }) _
    ∙ ap (λ p. items (record { base = word_view c.args.base; contexts = c.args.store.now }) (trees_of (trees_view c.args.items.now)) c.args.first
    (record { scope = record { context = context_view c.args.context.now; property = p; from_map = c.args.from_map }; place = c.args.place.now }) []) c.word.ensures)
    c.items.ensures
