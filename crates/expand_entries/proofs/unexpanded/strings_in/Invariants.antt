use Rattle.std.proofs.Common.{◌≡◌, ◌++◌}
use Rattle.std.specs.List.{flat_map}
use Rattle.ctx_types.specs.ContextView.{settings_view}
use Rattle.expand_model.specs.Properties.{language_strings}
use Rattle.expand_types.specs.View.{definition_in}
use Rattle.expand_entries.proofs.unexpanded.strings_in.Given as goal

abbrev pub invariant-loop-language : goal.invariant-loop-language
invariant-loop-language l = l.strings ++ flat_map (language_strings (settings_view l.context) (definition_in l.definition)) l.language-iterator ≡ flat_map (language_strings (settings_view l.context) (definition_in l.definition)) l.initial.language-iterator
