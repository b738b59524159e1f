use Rattle.std.proofs.Common.{◌≡◌, [], drop}
use Rattle.label_repair.proofs.Parts.{named_by}
use Rattle.label_repair.proofs.numbering.number_labels.Given as goal

-- What is left gives labels to the rest.
abbrev pub invariant-loop-part : goal.invariant-loop-part
invariant-loop-part l = named_by l.labels (drop l.part-index l.uses) ≡ named_by [] l.uses
