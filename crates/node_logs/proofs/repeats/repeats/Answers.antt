use Rattle.std.proofs.Common.{◌||◌, take, drop, ◌+◌, sym, ap, ◌∙◌}
use Rattle.node_logs.specs.Once.{repeats}
use Rattle.node_logs.proofs.Once.{repeats-next}
use Rattle.node_logs.proofs.repeats.repeats.Goals as goal

pub returns-then-repeats_at : goal.returns-then-repeats_at
returns-then-repeats_at c =
    sym (sym c.loop-number.invariant ∙ repeats-next c.args.entries.now c.loop-number.number
    ∙ ap (λ b. b || repeats (take (c.loop-number.number + 1) c.args.entries.now) (drop (c.loop-number.number + 1) c.args.entries.now)) (sym c.repeats_at.ensures ∙ c.if-repeats_at.true))

pub loop-number-preserved : goal.loop-number-preserved
loop-number-preserved c =
    sym (sym c.loop-number.invariant ∙ repeats-next c.args.entries.now c.loop-number.number
    ∙ ap (λ b. b || repeats (take (c.loop-number.number + 1) c.args.entries.now) (drop (c.loop-number.number + 1) c.args.entries.now)) (sym c.repeats_at.ensures ∙ c.if-repeats_at.false))
