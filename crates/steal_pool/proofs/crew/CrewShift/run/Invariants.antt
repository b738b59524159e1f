use Rattle.steal_pool.specs.Workers.{Fine}
use Rattle.steal_pool.proofs.crew.CrewShift.run.Given as goal

abbrev pub invariant-loop : goal.invariant-loop
invariant-loop g l = record {
  can : (goal.iterator-loop g).can_next l.iterator';
  finite : (goal.iterator-loop g).is_finite l.iterator';
  same : g.W.Work.same l.self.work.now l.fn.worker.seat l.worker.seat;
  fine : Fine (g.P.Piecework.count l.self.job.now) (g.P.Piecework.fails l.self.job.now) (g.W.Work.fits l.self.work.now l.self.job.now) (g.W.Work.good l.self.work.now l.self.job.now) (g.W.Work.bad l.self.work.now l.self.job.now) (g.W.Work.done l.self.work.now) l.self.pool.now l.self.least.now l.worker;
}
