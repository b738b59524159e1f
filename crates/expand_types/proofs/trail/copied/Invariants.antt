use Rattle.std.proofs.Common.{◌≡◌, take}
use Rattle.expand_types.proofs.trail.copied.Given as goal

abbrev pub invariant-loop-step : goal.invariant-loop-step
invariant-loop-step l = l.copy ≡ take l.step-index l.step-items
