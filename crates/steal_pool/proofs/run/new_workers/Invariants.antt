use Rattle.std.proofs.Common.{◌≡◌, ◌++◌, All, length}
use Rattle.first_error.specs.Word.{IsSeatOf as IsErrSeatOf}
use Rattle.steal_pool.specs.Pools.{IsSeatOf}
use Rattle.steal_pool.specs.Workers.{IsNew}
use Rattle.steal_pool.specs.Gathers.{seats_of}
use Rattle.steal_pool.proofs.run.new_workers.Given as goal

abbrev pub invariant-loop-seat : goal.invariant-loop-seat
invariant-loop-seat g l = record {
  errors : IsErrSeatOf l.crew.least.now l.errors;
  pieces : All (IsSeatOf l.crew.pool.now) l.pieces.items;
  count : length l.pieces.items ≡ length l.seat-iterator.rest.items;
  seats : seats_of l.workers.items ++ l.seat-iterator.rest.items ≡ l.fn.seats.items;
  new : All (IsNew l.crew.pool.now l.crew.least.now) l.workers.items;
}
