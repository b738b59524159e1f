use Rattle.std.proofs.Common.{ap, sym, ◌∙◌}
use Rattle.ld_model.specs.Tree.{tree_list-trees_of}
use Rattle.ld_tree.specs.View.{view}
use Rattle.expand_model.specs.Scope.{values_of}
use Rattle.expand_values.proofs.lists.values_of.Goals as goal

pub returns-in-Items : goal.returns-in-Items
returns-in-Items c = sym (ap (λ v. values_of (view v)) c.in-Items.is ∙ tree_list-trees_of c.in-Items.items)
