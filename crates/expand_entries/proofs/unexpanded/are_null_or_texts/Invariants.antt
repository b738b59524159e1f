use Rattle.std.proofs.Common.{◌≡◌}
use Rattle.std.specs.List.{list_all}
use Rattle.expand_model.specs.Properties.{is_language_value}
use Rattle.expand_entries.proofs.unexpanded.are_null_or_texts.Given as goal

abbrev pub invariant-loop-item : goal.invariant-loop-item
invariant-loop-item l = list_all is_language_value l.item-iterator ≡ list_all is_language_value l.initial.item-iterator
