use Rattle.std.proofs.Common.{◌≡◌, length, map}
use Rattle.crossbeam_deque.specs.Handles.{worker_deque}
use Rattle.steal_pool.specs.Pools.{Each, Dealing, IsSeatOf, NothingTaken}
use Rattle.steal_pool.proofs.pool.Pool.seats.Given as goal

abbrev pub invariant-loop-own : goal.invariant-loop-own
invariant-loop-own l = record {
  which : l.self.which ≡ map worker_deque l.dealer.owners.items;
  pieces : l.self.pieces ≡ l.dealer.pieces;
  long : length l.dealer.owners.items ≡ length l.initial.dealer.owners.items;
  count : length l.seats.items ≡ l.own;
  served : Each (Dealing (length l.dealer.owners.items) l.dealer.pieces l.own) l.dealer.owners.items;
  seats : Each (λ at s. IsSeatOf l.self s × (s.own ≡ at) × NothingTaken s.views) l.seats.items;
}
