use Rattle.std.proofs.Common.{refl, sym, ◌∙◌}
use Rattle.steal_pool.proofs.Finishing.{starts, slot_held, steps, fails_here}
use Rattle.steal_pool.proofs.Results.{pushed}
use Rattle.steal_pool.proofs.finish.answer_all.Goals as goal

pub loop-slot-init : goal.loop-slot-init
loop-slot-init g c =
    let s = starts (g.P.Piecework.count c.args.crew.now.job.now) _ _ _ (g.W.Work.bad c.args.crew.now.work.now c.args.crew.now.job.now) _ (g.W.Work.same c.args.crew.now.work.now) _ _ c.in-Ok.answers.items c.args.slots.items c.into_iter-slot-iterator.result.rest.items (g.met.W.Work.same_itself c.args.crew.now.work.now) c.requires.fits c.in-Ok.ensures.items c.into_iter-slot-iterator.ensures.into_iter_gives.0 refl c.requires.slots in
    record { left = s.long; held = s.held; answered = s.answered; still = s.still }

pub answer-requires-clause-slot : goal.answer-requires-clause-slot
answer-requires-clause-slot g c = let i = c.loop-slot.invariant in slot_held (g.P.Piecework.count c.args.crew.now.job.now) _ _ _ (g.W.Work.bad c.args.crew.now.work.now c.args.crew.now.job.now) _ _ _ _ _ _ _ _ _ _ c.in-Some.ensures.steps.0 (c.len-piece.ensures ∙ c.loop-slot.answers.ok.0) record { long = i.left; held = i.held; answered = i.answered; still = i.still }

pub loop-slot-preserved : goal.loop-slot-preserved
loop-slot-preserved g c =
    let i = c.loop-slot.invariant in
    let s = steps (g.P.Piecework.count c.args.crew.now.job.now) _ _ _ (g.W.Work.bad c.args.crew.now.work.now c.args.crew.now.job.now) _ _ _ _ (g.met.W.Work.same_then c.args.crew.now.work.now) _ c.push.new.self.items _ c.next.new.self.rest.items _ _ _ _ _ c.in-Some.ensures.steps.0 (c.len-piece.ensures ∙ c.loop-slot.answers.ok.0) c.answer.ensures.seats c.in-Ok-answer.ensures.answer (pushed c.push.result _ _ _ (sym c.is_err.ensures.value ∙ c.if-is_err.false) c.push.ensures.items) record { long = i.left; held = i.held; answered = i.answered; still = i.still } in
    record { left = s.long; held = s.held; answered = s.answered; still = s.still }

pub returns-in-Err-Failed-clause-told : goal.returns-in-Err-Failed-clause-told
returns-in-Err-Failed-clause-told g c = let i = c.loop-slot.invariant in fails_here _ _ _ _ _ _ _ _ _ _ _ _ _ _ _ _ c.in-Some.ensures.steps.0 (c.len-piece.ensures ∙ c.loop-slot.answers.ok.0) c.requires.pieces (rw c.in-Err-Failed.field-0-is at c.in-Err-Failed.ensures.error) record { long = i.left; held = i.held; answered = i.answered; still = i.still }
