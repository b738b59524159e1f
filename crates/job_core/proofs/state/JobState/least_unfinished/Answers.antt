use Rattle.std.proofs.Common.{◌≡◌, ℕ, suc, ◌+◌, ◌-◌, Bool, true, false, length, Some, refl, arith, sym, ap, ◌∙◌}
use Rattle.job_core.specs.Machine.{Job, is_finished, first_without}
use Rattle.job_core.proofs.state.JobState.least_unfinished.Goals as goal

first_without-fails : (test : ℕ → Bool) (from count : ℕ) → test from ≡ false → first_without test from (suc count) ≡ Some from
first_without-fails test from count e = rw e refl

first_without-passes : (test : ℕ → Bool) (from count : ℕ) → test from ≡ true → first_without test from (suc count) ≡ first_without test (from + 1) count
first_without-passes test from count e = rw e refl

pub returns-then-not-is_finished : goal.returns-then-not-is_finished
returns-then-not-is_finished c =
    let job = c.args.self.now in
    let left = length job.fails - (c.loop-piece.piece + 1) in
    sym (first_without-fails (is_finished job) c.loop-piece.piece left (sym c.is_finished.ensures ∙ c.if-not-is_finished.true))
    ∙ c.loop-piece.invariant (suc left) (let same = ap (λ (of : Job). length of.fails) c.self.view_is in omega arith)

pub loop-piece-preserved : goal.loop-piece-preserved
loop-piece-preserved c count e =
    sym (first_without-passes (is_finished c.args.self.now) c.loop-piece.piece count (sym c.is_finished.ensures ∙ c.if-not-is_finished.false))
    ∙ c.loop-piece.invariant (suc count) (omega arith)

pub returns : goal.returns
returns c = c.loop-piece.invariant 0 (let same = ap (λ (of : Job). length of.fails) c.self.view_is in omega arith)
