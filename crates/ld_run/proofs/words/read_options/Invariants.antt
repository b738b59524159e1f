use Rattle.std.proofs.Common.{◌≡◌, length}
use Rattle.ld_run.specs.Words.{words_of, with_options}
use Rattle.ld_run.proofs.words.read_options.Given as goal

-- What is left, with the options so far, gives what all gives.
abbrev pub invariant-loop-word : goal.invariant-loop-word
invariant-loop-word l = with_options l.order (words_of l.rest) ≡ with_options l.fn.order (words_of l.fn.words)

abbrev pub decreases-loop-word : goal.decreases-loop-word
decreases-loop-word l = length l.rest
