use Rattle.std.proofs.Common.{ap, sym, ◌∙◌}
use Rattle.std.specs.Prelude.{◌&&◌, not}
use Rattle.std.specs.List.{list_all}
use Rattle.ld_tree.specs.View.{view}
use Rattle.expand_model.specs.Scope.{is_node_object, is_null, values_of}
use Rattle.expand_values.proofs.Carried.{of_items}
use Rattle.expand_parts.proofs.keywords.may_be_included.Goals as goal

pub returns-in-Items : goal.returns-in-Items
returns-in-Items c =
    c.are_node_objects.ensures ∙ sym (of_items (list_all is_node_object) c.in-Items.nodes)
    ∙ sym (ap (λ v. not (is_null (view v)) && list_all is_node_object (values_of (view v))) c.in-Items.is)
