use Rattle.std.proofs.Common.{◌≡◌, ◌+◌, ◌-◌, ◌≤◌, All, length}
use Rattle.shard_map.specs.Seats.{IsSeatOf}
use Rattle.phase_enter.specs.Entries.{shares, halved}
use Rattle.phase_enter.proofs.seats.split_all.Given as goal

abbrev pub invariant-loop : goal.invariant-loop
invariant-loop g l = record {
  seat : IsSeatOf l.map l.seat;
  count : length l.seats.items ≡ l.counter;
  left : halved (l.workers - l.counter) ≤ l.seat.view.share;
  share : l.seat.view.share + shares l.seats.items ≡ l.initial.seat.view.share;
  seats : All (IsSeatOf l.map) l.seats.items;
}
