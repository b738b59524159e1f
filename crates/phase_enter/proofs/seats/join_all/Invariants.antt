use Rattle.std.proofs.Common.{All}
use Rattle.shard_map.specs.Seats.{IsSeatOf}
use Rattle.phase_enter.proofs.Joining.{Joining}
use Rattle.phase_enter.proofs.seats.join_all.Given as goal

abbrev pub invariant-loop-other : goal.invariant-loop-other
invariant-loop-other g l = record {
  seat : IsSeatOf l.map l.seat;
  left : All (IsSeatOf l.map) l.other-iterator.rest.items;
  joining : Joining l.initial.seat l.fn.others.items l.seat l.other-iterator.rest.items;
}
