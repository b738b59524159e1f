use Rattle.std.proofs.Common.{◌≡◌, ◌++◌, drop, string_bytes}
use Rattle.ld_json.specs.Pointer.{steps_text}
use Rattle.ld_json.proofs.pointer.push_steps.Given as goal

abbrev pub invariant-loop-step : goal.invariant-loop-step
invariant-loop-step l = string_bytes l.out ++ steps_text (drop l.step-index l.steps) ≡ string_bytes l.fn.out ++ steps_text l.steps
