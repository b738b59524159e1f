use Rattle.std.proofs.Common.{◌≡◌, ◌+◌, ◌≤◌, length}
use Rattle.std.specs.Prelude.{vec_capacity}
use Rattle.shard_map.specs.Seats.{IsSeatOf}
use Rattle.shard_map.specs.Views.{whole}
use Rattle.phase_enter.specs.Entries.{Grows}
use Rattle.phase_enter.proofs.Finishing.{Finishing}
use Rattle.phase_enter.proofs.enters.Enters.finish.Given as goal

abbrev pub invariant-loop-piece : goal.invariant-loop-piece
invariant-loop-piece g l = record {
  seat : IsSeatOf l.self.map.now l.seat;
  share : l.seat.view.share ≡ whole;
  grows : Grows l.initial.seat l.seat;
  room : length l.rests.items + length l.piece-iterator.rest.items ≤ vec_capacity l.rests;
  finishing : Finishing (g.J.Piecework.shard_count l.self.map.now.job) (g.J.Piecework.count l.self.map.now.job) (g.J.Piecework.part l.self.map.now.job) (g.J.Parts.rest l.self.map.now.job) l.seat l.piece-iterator.rest.items l.rests.items;
}
