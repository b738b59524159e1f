use Rattle.std.proofs.Common.{◌≡◌, length}
use Rattle.steal_pool.specs.Pools.{Each, Dealing}
use Rattle.steal_pool.proofs.deal.Dealer.open.Given as goal

abbrev pub invariant-loop : goal.invariant-loop
invariant-loop l = record {
  count : length l.owners.items ≡ l.counter;
  empty : Each (Dealing l.deques 0 0) l.owners.items;
}
