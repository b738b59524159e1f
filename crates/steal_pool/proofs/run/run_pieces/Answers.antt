use Rattle.std.proofs.Common.{All, List, sym, subst}
use Rattle.steal_pool.specs.Pools.{IsSeatOf}
use Rattle.steal_pool.specs.Works.{SameSeats}
use Rattle.steal_pool.proofs.Lists.{all_each}
use Rattle.steal_pool.proofs.Results.{matched}
use Rattle.steal_pool.proofs.Runs.{same_through}
use Rattle.steal_pool.proofs.run.run_pieces.Goals as goal

pub new_workers-requires-clause-pieces : goal.new_workers-requires-clause-pieces
new_workers-requires-clause-pieces g c = all_each (IsSeatOf c.in-Ok.pool) c.in-Ok.pieces.items (λ k s got. (c.in-Ok.ensures.seats k s got).0)

pub run_workers-requires-clause-fits : goal.run_workers-requires-clause-fits
run_workers-requires-clause-fits g c κs within = subst (All (g.W.Work.fits c.args.work.now c.args.job.now)) (sym c.in-Ok-new_workers.ensures.seats) c.requires.fits

pub returns : goal.returns
returns g c =
    let same = subst (λ (l : List g.row.W-Seat.Denot). SameSeats (g.W.Work.same c.args.work.now) l c.in-Ok-run_workers.gathered.seats.items) c.in-Ok-new_workers.ensures.seats c.in-Ok-run_workers.ensures.same in
    let laws = g.met.W.Work g.world.𝓛 g.world.𝓜 g.world.𝓡 ((λ s x. x), (λ x. x), (λ x. x), λ x. x) in
    matched c.finish.result _ _ _ (λ ran h. same_through _ _ _ _ _ _ (laws.same_then c.args.work.now) _ c.in-Ok-run_workers.gathered.seats.items ran same h) c.finish.ensures
