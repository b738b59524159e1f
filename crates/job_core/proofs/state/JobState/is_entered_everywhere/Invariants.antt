use Rattle.std.proofs.Common.{◌≡◌, drop, map}
use Rattle.job_core.specs.Machine.{in_every}
use Rattle.job_core.proofs.state.JobState.is_entered_everywhere.Given as goal

abbrev pub invariant-loop-row : goal.invariant-loop-row
invariant-loop-row l = in_every l.piece (map (λ row. row.items) (drop l.row-index l.row-items)) ≡ in_every l.piece l.self.entered
