use Rattle.std.proofs.Common.{◌≡◌, ◌++◌}
use Rattle.std.specs.Prelude.{map}
use Rattle.expand_model.specs.Scope.{graph_object}
use Rattle.expand_parts.proofs.properties.graph_objects.Given as goal

abbrev pub invariant-loop-item : goal.invariant-loop-item
invariant-loop-item l = l.graphs ++ map graph_object l.item-iterator ≡ map graph_object l.initial.item-iterator
