use Rattle.std.proofs.Common.{sym, ◌∙◌}
use Rattle.steal_pool.proofs.Gathers.{starts, adds, head_is_inside, all_seats}
use Rattle.steal_pool.proofs.gather.gather.Goals as goal

pub loop-worker-init : goal.loop-worker-init
loop-worker-init g c =
    let s = starts c.args.pieces c.args.workers.items c.in_ok-with_capacity.field-0.items c.in_ok-no_answers.field-0.items _ c.in_ok-with_capacity.ensures.items c.in_ok-no_answers.ensures c.into_iter-worker-iterator.ensures.into_iter_gives.0 c.requires in
    record { seats = s.seats_is; slots = s.slots_is; long = s.long; failure = s.failure_of; inside = s.inside; members = s.members }

pub add-requires : goal.add-requires
add-requires g c = head_is_inside c.args.pieces c.args.workers.items _ _ _ _ c.in-Some.ensures.steps.0 c.loop-worker.invariant.long c.loop-worker.invariant.inside

pub loop-worker-preserved : goal.loop-worker-preserved
loop-worker-preserved g c =
    let i = c.loop-worker.invariant in
    let s = adds c.args.pieces c.args.workers.items _ _ _ _ _ c.add.new.gathered.failure _ _ _ c.in-Some.ensures.steps.0 c.in_ok-add.ensures.0 c.in_ok-add.ensures.1 c.in_ok-add.ensures.2 record { seats_is = i.seats; slots_is = i.slots; long = i.long; failure_of = i.failure; inside = i.inside; members = i.members } in
    record { seats = s.seats_is; slots = s.slots_is; long = s.long; failure = s.failure_of; inside = s.inside; members = s.members }

pub returns-clause-seats : goal.returns-clause-seats
returns-clause-seats g c = all_seats c.args.pieces c.args.workers.items _ _ c.loop-worker.invariant.seats (sym c.loop-worker.worker-iterator.rest.ok.0 ∙ c.in-None.ensures.steps.0)
