use Rattle.std.proofs.Common.{ap, sym, ◌∙◌}
use Rattle.std.specs.List.{list_all}
use Rattle.ld_tree.specs.View.{view}
use Rattle.expand_model.specs.Scope.{values_of}
use Rattle.expand_model.specs.Properties.{is_language_value}
use Rattle.expand_values.proofs.Carried.{of_items}
use Rattle.expand_entries.proofs.unexpanded.has_language_values.Goals as goal

pub returns-in-Items : goal.returns-in-Items
returns-in-Items c =
    c.are_null_or_texts.ensures ∙ sym (of_items (list_all is_language_value) c.in-Items.items)
    ∙ sym (ap (λ v. list_all is_language_value (values_of (view v))) c.in-Items.is)
