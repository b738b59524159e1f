use Rattle.std.proofs.Common.{ap, sym, ◌∙◌}
use Rattle.std.specs.List.{list_any}
use Rattle.ld_model.specs.Tree.{tree_list-trees_of}
use Rattle.ld_tree.specs.View.{view}
use Rattle.ctx_types.specs.ContextView.{settings_view}
use Rattle.expand_model.specs.Scope.{values_of}
use Rattle.expand_contexts.specs.Types.{is_scoped}
use Rattle.expand_contexts.proofs.typing.has_scoped_type.Goals as goal

pub returns-in-Items : goal.returns-in-Items
returns-in-Items c =
    let s = settings_view c.args.types.now in
    c.have_scoped.ensures ∙ sym (ap (list_any (is_scoped s)) (tree_list-trees_of c.in-Items.items)) ∙ sym (ap (λ v. list_any (is_scoped s) (values_of (view v))) c.in-Items.is)
