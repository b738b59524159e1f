use Rattle.std.proofs.Common.{length, ap, refl, arith}
use Rattle.steal_pool.specs.Pools.{IsSeatOf}
use Rattle.steal_pool.proofs.Runs.{seats_added, new_added}
use Rattle.steal_pool.proofs.Lists.{popped}
use Rattle.steal_pool.proofs.run.new_workers.Goals as goal

pub loop-seat-preserved : goal.loop-seat-preserved
loop-seat-preserved g c =
    let i = c.loop-seat.invariant in
    let p = popped (IsSeatOf c.args.crew.now.pool.now) _ _ c.pop.result c.unwrap.result c.pop.ensures.items c.unwrap.ensures i.pieces in record {
      errors = c.split.ensures.seats.0;
      pieces = p.0;
      count = omega (arith, i.count, p.2, ap length c.in-Some.ensures.steps.0);
      seats = seats_added c.loop-seat.workers.items c.push.new.self.items _ c.loop-seat.seat-iterator.rest.items c.next.new.self.rest.items c.args.seats.items c.in_ok-push.ensures.items c.in-Some.ensures.steps.0 i.seats;
      new = new_added c.args.crew.now.pool.now c.args.crew.now.least.now c.loop-seat.workers.items c.push.new.self.items _ c.in_ok-push.ensures.items i.new p.1 c.split.ensures.seats.1 c.new.ensures.items refl;
    }
