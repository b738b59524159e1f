use Rattle.std.proofs.Common.{◌≡◌, All}
use Rattle.shard_map.specs.Seats.{IsSeatOf}
use Rattle.shard_map.specs.Views.{whole}
use Rattle.phase_enter.specs.Entries.{Grows, IsKept}
use Rattle.phase_enter.proofs.Finishing.{Entering}
use Rattle.phase_enter.proofs.enters.Enters.finish_piece.Given as goal

abbrev pub invariant-loop-shard : goal.invariant-loop-shard
invariant-loop-shard g l = record {
  seat : IsSeatOf l.self.map.now l.seat;
  share : l.seat.view.share ≡ whole;
  grows : Grows l.initial.seat l.seat;
  left : All (IsKept (g.J.Piecework.shard_count l.self.map.now.job) (g.J.Piecework.part l.self.map.now.job) l.piece) l.shard-iterator.rest.items;
  entering : Entering l.piece l.fn.kept.items l.seat l.shard-iterator.rest.items;
}
