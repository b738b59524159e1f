use Rattle.std.proofs.Common.{◌≡◌}
use Rattle.std.specs.List.{list_any}
use Rattle.expand_model.specs.Properties.{is_irreversible}
use Rattle.expand_parts.proofs.properties.has_irreversible.Given as goal

abbrev pub invariant-loop-value : goal.invariant-loop-value
invariant-loop-value l = list_any is_irreversible l.value-iterator ≡ list_any is_irreversible l.initial.value-iterator
