use Rattle.std.proofs.Common.{◌≡◌, ℕ, ◌+◌, length}
use Rattle.job_core.specs.Machine.{is_finished, first_without, least_unfinished}
use Rattle.job_core.proofs.state.JobState.least_unfinished.Given as goal

abbrev pub invariant-loop-piece : goal.invariant-loop-piece
invariant-loop-piece l = (count : ℕ) → l.piece + count ≡ length l.self.fails → first_without (is_finished l.self) l.piece count ≡ least_unfinished l.self
