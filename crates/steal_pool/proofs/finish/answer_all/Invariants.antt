use Rattle.std.proofs.Common.{◌≡◌, ◌+◌, ℕ, Some, length, slice_get}
use Rattle.steal_pool.specs.Pools.{Each}
use Rattle.steal_pool.specs.Works.{IsHeldAnswer, StillSeats}
use Rattle.steal_pool.proofs.finish.answer_all.Given as goal

abbrev pub invariant-loop-slot : goal.invariant-loop-slot
invariant-loop-slot g l = record {
  left : length l.answers.items + length l.slot-iterator.rest.items ≡ length l.fn.slots.items;
  held : (k : ℕ) (a : g.row.W-Answer.Denot) → slice_get l.slot-iterator.rest.items k ≡ Some (Some a) → IsHeldAnswer (g.P.Piecework.fails l.crew.job.now) (g.W.Work.good l.crew.work.now l.crew.job.now) (g.W.Work.done l.crew.work.now) l.seats.items (length l.answers.items + k) a;
  answered : Each (λ piece x. (x.0 ≡ piece) × IsHeldAnswer (g.P.Piecework.fails l.crew.job.now) (g.W.Work.good l.crew.work.now l.crew.job.now) (g.W.Work.done l.crew.work.now) l.seats.items piece x.1) l.answers.items;
  still : StillSeats (g.W.Work.fits l.crew.work.now l.crew.job.now) (g.W.Work.done l.crew.work.now) (g.W.Work.same l.crew.work.now) l.initial.seats.items l.seats.items;
}
