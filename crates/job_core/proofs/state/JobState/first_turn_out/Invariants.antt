use Rattle.std.proofs.Common.{◌≡◌, drop}
use Rattle.job_core.specs.Machine.{first_turn_out}
use Rattle.job_core.proofs.state.JobState.first_turn_out.Given as goal

abbrev pub invariant-loop-turn : goal.invariant-loop-turn
invariant-loop-turn l = first_turn_out (drop l.turn-index l.turn-items) ≡ first_turn_out l.self.turns
