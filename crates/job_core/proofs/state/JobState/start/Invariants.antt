use Rattle.std.proofs.Common.{◌≡◌, false, map, replicate}
use Rattle.job_core.proofs.state.JobState.start.Given as goal

abbrev pub invariant-loop : goal.invariant-loop
invariant-loop l = map (λ row. row.items) l.entered.items ≡ replicate l.counter (replicate l.count false)
