use Rattle.std.proofs.Common.{◌≡◌}
use Rattle.std.specs.List.{list_all}
use Rattle.expand_model.specs.Indexes.{is_graph_key}
use Rattle.expand_parts.proofs.indexes.has_graph_keys.Given as goal

abbrev pub invariant-loop-key : goal.invariant-loop-key
invariant-loop-key l = list_all is_graph_key l.key-iterator ≡ list_all is_graph_key l.initial.key-iterator
