use Rattle.std.proofs.Common.{ap, sym, ◌∙◌}
use Rattle.ld_model.specs.Tree.{tree_list-trees_of}
use Rattle.ld_tree.specs.View.{view}
use Rattle.expand_model.specs.Scope.{as_items}
use Rattle.expand_values.proofs.lists.as_items.Goals as goal

pub returns-in-Items : goal.returns-in-Items
returns-in-Items c = sym (ap (λ v. as_items (view v)) c.in-Items.is ∙ tree_list-trees_of c.in-Items.items)
