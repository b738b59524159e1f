use Rattle.std.proofs.Common.{◌≡◌}
use Rattle.std.specs.List.{list_all}
use Rattle.expand_model.specs.Finish.{is_value_key}
use Rattle.expand_entries.proofs.finish.has_value_keys.Given as goal

abbrev pub invariant-loop-key : goal.invariant-loop-key
invariant-loop-key l = list_all is_value_key l.key-iterator ≡ list_all is_value_key l.initial.key-iterator
