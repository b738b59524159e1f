use Rattle.std.proofs.Common.{◌≡◌, ◌++◌, All, drop, map}
use Rattle.crossbeam_deque.specs.Handles.{stealer_deque, stealer_flavor, worker_deque}
use Rattle.steal_pool.proofs.deal.Dealer.thieves.Given as goal

abbrev pub invariant-loop-owner : goal.invariant-loop-owner
invariant-loop-owner l = record {
  deques : map stealer_deque l.made.items ++ map worker_deque (drop l.owner-index l.self.owners.items) ≡ map worker_deque l.self.owners.items;
  flavor : All (λ t. stealer_flavor t ≡ 0) l.made.items;
}
