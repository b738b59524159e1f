-- The words that are left, put into the shape so far, make what all of them make.
use Rattle.std.proofs.Common.{◌≡◌, drop}
use Rattle.case_tables.specs.Shape.{with_words}
use Rattle.case_tables.proofs.shape.container_shape.Given as goal

abbrev pub invariant-loop-word : goal.invariant-loop-word
invariant-loop-word l = with_words (drop l.word-index l.words) l.shape ≡ with_words l.words l.initial.shape
