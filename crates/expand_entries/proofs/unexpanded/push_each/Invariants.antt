use Rattle.std.proofs.Common.{◌≡◌, ◌++◌}
use Rattle.std.specs.List.{filter_map}
use Rattle.ctx_types.specs.ContextView.{settings_view}
use Rattle.expand_model.specs.Properties.{language_string}
use Rattle.expand_types.specs.View.{definition_in}
use Rattle.expand_entries.proofs.unexpanded.push_each.Given as goal

abbrev pub invariant-loop-item : goal.invariant-loop-item
invariant-loop-item l = l.strings ++ filter_map (language_string (settings_view l.context) (definition_in l.definition) l.language) l.item-iterator ≡ l.initial.strings ++ filter_map (language_string (settings_view l.context) (definition_in l.definition) l.language) l.initial.item-iterator
