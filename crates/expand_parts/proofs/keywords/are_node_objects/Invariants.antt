use Rattle.std.proofs.Common.{◌≡◌}
use Rattle.std.specs.List.{list_all}
use Rattle.expand_model.specs.Scope.{is_node_object}
use Rattle.expand_parts.proofs.keywords.are_node_objects.Given as goal

abbrev pub invariant-loop-node : goal.invariant-loop-node
invariant-loop-node l = list_all is_node_object l.node-iterator ≡ list_all is_node_object l.initial.node-iterator
