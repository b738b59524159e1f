use Rattle.std.proofs.Common.{◌≡◌, ◌<◌, length, ap, arith}
use Rattle.steal_pool.proofs.Runs.{came, all_new_fine, all_inside, back, back_fine, back_same, gathered}
use Rattle.steal_pool.proofs.Lists.{map_length}
use Rattle.steal_pool.proofs.Results.{if_ok, if_ok3}
use Rattle.steal_pool.proofs.run.run_workers.Goals as goal

pub fork-requires-after_bounds : goal.fork-requires-after_bounds
fork-requires-after_bounds g c = λ κs bounds k d inside. (
  c.requires.job.0,
  c.requires.job.1,
  all_new_fine _ _ _ _ _ _ _ _ c.args.workers.items c.requires.new c.requires.fits k d inside,
)

pub gather-requires : goal.gather-requires
gather-requires g c =
    let each = back (g.P.Piecework.count c.args.crew.now.job.now) (g.P.Piecework.fails c.args.crew.now.job.now) (g.W.Work.fits c.args.crew.now.work.now c.args.crew.now.job.now) (g.W.Work.good c.args.crew.now.work.now c.args.crew.now.job.now) (g.W.Work.bad c.args.crew.now.work.now c.args.crew.now.job.now) (g.W.Work.done c.args.crew.now.work.now) c.args.crew.now.pool.now c.args.crew.now.least.now (g.W.Work.same c.args.crew.now.work.now) c.args.workers.items c.in_ok-workers.workers.items c.in_ok-backs.backs.items c.in_ok-workers.ensures c.in_ok-backs.ensures.0 c.in_ok-backs.ensures.1 in
    all_inside _ _ _ _ _ _ _ _ c.pieces.result c.in_ok-workers.workers.items c.pieces.ensures (back_fine _ _ _ _ _ _ _ _ _ _ _ each)

pub returns-clause-fine : goal.returns-clause-fine
returns-clause-fine g c =
    let each = back (g.P.Piecework.count c.args.crew.now.job.now) (g.P.Piecework.fails c.args.crew.now.job.now) (g.W.Work.fits c.args.crew.now.work.now c.args.crew.now.job.now) (g.W.Work.good c.args.crew.now.work.now c.args.crew.now.job.now) (g.W.Work.bad c.args.crew.now.work.now c.args.crew.now.job.now) (g.W.Work.done c.args.crew.now.work.now) c.args.crew.now.pool.now c.args.crew.now.least.now (g.W.Work.same c.args.crew.now.work.now) c.args.workers.items c.in_ok-workers.workers.items c.in_ok-backs.backs.items c.in_ok-workers.ensures c.in_ok-backs.ensures.0 c.in_ok-backs.ensures.1 in
    let some : 0 < length c.in_ok-workers.workers.items = omega (arith, c.requires.some, c.in_ok-backs.ensures.0, ap length c.in_ok-workers.ensures, map_length came c.in_ok-workers.workers.items) in
    if_ok3 c.gather.result _ _ _ _ (λ v seats slots failure. gathered _ _ _ _ _ _ c.args.crew.now.pool.now c.args.crew.now.least.now c.pieces.result c.in_ok-workers.workers.items v c.pieces.ensures some (back_fine _ _ _ _ _ _ _ _ _ _ _ each) seats slots failure) c.gather.ensures.seats c.gather.ensures.slots c.gather.ensures.failure

pub returns-clause-same : goal.returns-clause-same
returns-clause-same g c =
    let each = back (g.P.Piecework.count c.args.crew.now.job.now) (g.P.Piecework.fails c.args.crew.now.job.now) (g.W.Work.fits c.args.crew.now.work.now c.args.crew.now.job.now) (g.W.Work.good c.args.crew.now.work.now c.args.crew.now.job.now) (g.W.Work.bad c.args.crew.now.work.now c.args.crew.now.job.now) (g.W.Work.done c.args.crew.now.work.now) c.args.crew.now.pool.now c.args.crew.now.least.now (g.W.Work.same c.args.crew.now.work.now) c.args.workers.items c.in_ok-workers.workers.items c.in_ok-backs.backs.items c.in_ok-workers.ensures c.in_ok-backs.ensures.0 c.in_ok-backs.ensures.1 in
    let long : length c.in_ok-workers.workers.items ≡ length c.args.workers.items = omega (arith, c.in_ok-backs.ensures.0, ap length c.in_ok-workers.ensures, map_length came c.in_ok-workers.workers.items) in
    if_ok c.gather.result _ _ (λ v seats. back_same _ _ _ _ _ _ _ _ (g.W.Work.same c.args.crew.now.work.now) c.args.workers.items c.in_ok-workers.workers.items v.seats.items seats long each) c.gather.ensures.seats
