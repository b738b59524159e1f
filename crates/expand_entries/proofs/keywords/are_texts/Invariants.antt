use Rattle.std.proofs.Common.{◌≡◌}
use Rattle.std.specs.List.{list_all}
use Rattle.expand_model.specs.Scope.{is_text}
use Rattle.expand_entries.proofs.keywords.are_texts.Given as goal

abbrev pub invariant-loop-value : goal.invariant-loop-value
invariant-loop-value l = list_all is_text l.value-iterator ≡ list_all is_text l.initial.value-iterator
