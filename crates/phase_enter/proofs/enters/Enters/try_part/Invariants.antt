use Rattle.std.proofs.Common.{◌≡◌}
use Rattle.shard_map.specs.Seats.{IsSeatOf}
use Rattle.phase_enter.specs.Entries.{Grows}
use Rattle.phase_enter.proofs.enters.Enters.try_part.Given as goal

abbrev pub invariant-loop : goal.invariant-loop
invariant-loop g l = record {
  seat : IsSeatOf l.self.map.now l.seat;
  grows : Grows l.initial.seat l.seat;
  same : l.part ≡ g.J.Piecework.part l.self.map.now.job l.shard l.piece;
}
