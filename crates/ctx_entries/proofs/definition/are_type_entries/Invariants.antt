-- What is left has only such entries if all of them are such.
use Rattle.std.proofs.Common.{◌≡◌}
use Rattle.std.specs.List.{list_all}
use Rattle.ctx_model.specs.Definition.{is_type_entry}
use Rattle.ctx_entries.proofs.definition.are_type_entries.Given as goal

abbrev pub invariant-loop-key : goal.invariant-loop-key
invariant-loop-key l = list_all is_type_entry l.key-iterator ≡ list_all is_type_entry l.entries
