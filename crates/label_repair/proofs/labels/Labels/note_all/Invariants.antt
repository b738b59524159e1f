use Rattle.std.proofs.Common.{◌≡◌}
use Rattle.op_model.specs.Running.{used}
use Rattle.op_types.specs.View.{names_view}
use Rattle.label_repair.proofs.labels.Labels.note_all.Given as goal

-- What is left gives labels to the rest.
abbrev pub invariant-loop-name : goal.invariant-loop-name
invariant-loop-name l = used l.self (names_view l.name-iterator) ≡ used l.fn.self (names_view l.fn.names.keys)
