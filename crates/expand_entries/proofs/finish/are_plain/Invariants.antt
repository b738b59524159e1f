use Rattle.std.proofs.Common.{◌≡◌}
use Rattle.std.specs.List.{list_all}
use Rattle.expand_entries.specs.Finish.{is_plain}
use Rattle.expand_entries.proofs.finish.are_plain.Given as goal

abbrev pub invariant-loop-key : goal.invariant-loop-key
invariant-loop-key l = list_all is_plain l.key-iterator ≡ list_all is_plain l.initial.key-iterator
