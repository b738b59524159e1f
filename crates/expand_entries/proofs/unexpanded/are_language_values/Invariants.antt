use Rattle.std.proofs.Common.{◌≡◌}
use Rattle.std.specs.List.{list_all}
use Rattle.expand_model.specs.Scope.{values_of}
use Rattle.expand_model.specs.Properties.{is_language_value}
use Rattle.expand_entries.proofs.unexpanded.are_language_values.Given as goal

abbrev pub invariant-loop-value : goal.invariant-loop-value
invariant-loop-value l = list_all (λ e. list_all is_language_value (values_of e.1)) l.value-iterator ≡ list_all (λ e. list_all is_language_value (values_of e.1)) l.initial.value-iterator
