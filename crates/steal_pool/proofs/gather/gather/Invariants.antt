use Rattle.std.proofs.Common.{◌≡◌, ◌++◌, All, length, None}
use Rattle.std.specs.Prelude.{Contains, replicate}
use Rattle.steal_pool.specs.Gathers.{all_filled, seats_of, IsFailureOf, IsInside}
use Rattle.steal_pool.proofs.gather.gather.Given as goal

abbrev pub invariant-loop-worker : goal.invariant-loop-worker
invariant-loop-worker g l = record {
  seats : l.gathered.seats.items ++ seats_of l.worker-iterator.rest.items ≡ seats_of l.fn.workers.items;
  slots : all_filled l.gathered.slots.items l.worker-iterator.rest.items ≡ all_filled (replicate l.pieces None) l.fn.workers.items;
  long : length l.gathered.slots.items ≡ l.pieces;
  failure : IsFailureOf l.fn.workers.items l.gathered.failure;
  inside : All (IsInside l.pieces) l.worker-iterator.rest.items;
  members : All (Contains l.fn.workers.items) l.worker-iterator.rest.items;
}
