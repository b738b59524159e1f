use Rattle.std.proofs.Common.{◌≡◌, ◌+◌, ◌≤◌, ℕ, Some, All, length, slice_get}
use Rattle.std.specs.Prelude.{vec_capacity}
use Rattle.shard_map.specs.Seats.{IsSeatOf}
use Rattle.phase_enter.specs.Entries.{Grows, IsKept, IsCovered}
use Rattle.phase_enter.proofs.enters.Enters.enter_parts.Given as goal

abbrev pub invariant-loop-part : goal.invariant-loop-part
invariant-loop-part g l = record {
  seat : IsSeatOf l.self.map.now l.seat;
  grows : Grows l.initial.seat l.seat;
  count : l.shard + length l.part-iterator.rest.items ≡ g.J.Piecework.shard_count l.self.map.now.job;
  left : (k : ℕ) (x : g.row.J-Part.Denot) → slice_get l.part-iterator.rest.items k ≡ Some x → x ≡ g.J.Piecework.part l.self.map.now.job (l.shard + k) l.piece;
  room : length l.kept.items + length l.part-iterator.rest.items ≤ vec_capacity l.kept;
  fine : All (IsKept (g.J.Piecework.shard_count l.self.map.now.job) (g.J.Piecework.part l.self.map.now.job) l.piece) l.kept.items;
  covered : IsCovered l.shard l.seat l.piece l.kept.items;
}
