use Rattle.std.proofs.Common.{◌≡◌}
use Rattle.steal_pool.specs.Works.{NoneFails}
use Rattle.phase_enter.proofs.Ending.{whole_enough, all_seats, whole_again}
use Rattle.phase_enter.proofs.Finishing.{answers_at}
use Rattle.phase_enter.proofs.phase.enter_all.Goals as goal

pub split_all-requires-clause-share : goal.split_all-requires-clause-share
split_all-requires-clause-share g c = whole_enough c.args.workers _ c.requires.workers.1 c.requires.seat.1

pub join_all-requires-clause-others : goal.join_all-requires-clause-others
join_all-requires-clause-others g c = all_seats c.args.map.now (NoneFails (g.J.Piecework.count c.args.job.now) (g.J.Piecework.fails c.args.job.now)) (c.args.map.now.job ≡ c.args.job.now) _ c.in-Ok.ensures.seats_fit

pub finish-rests-requires-clause-seat : goal.finish-rests-requires-clause-seat
finish-rests-requires-clause-seat g c = (c.join_all.ensures.seat, whole_again c.args.seat c.split_all.new.seat c.join_all.new.seat _ _ c.requires.seat.1 c.in_ok-seats.ensures.share c.in-Ok.ensures.seats_same c.join_all.ensures.joined)

pub finish-rests-requires-clause-answers : goal.finish-rests-requires-clause-answers
finish-rests-requires-clause-answers g c = answers_at g.J.Piecework.count g.J.Piecework.shard_count g.J.Piecework.fails g.J.Piecework.part g.J.Parts.rest _ _ c.args.map.now.job c.args.job.now c.split_all.new.seat c.join_all.new.seat _ _ c.requires.map c.in-Ok.ensures c.join_all.ensures.joined
