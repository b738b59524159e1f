use Rattle.std.proofs.Common.{◌≡◌, length, map}
use Rattle.crossbeam_deque.specs.Handles.{worker_deque}
use Rattle.steal_pool.specs.Pools.{Each, Serving, IsFresh}
use Rattle.steal_pool.proofs.deal.Dealer.tokens.Given as goal

abbrev pub invariant-loop-at : goal.invariant-loop-at
invariant-loop-at l = record {
  pieces : l.self.pieces ≡ l.initial.self.pieces;
  long : length l.self.owners.items ≡ length l.initial.self.owners.items;
  deques : map worker_deque l.self.owners.items ≡ map worker_deque l.initial.self.owners.items;
  count : length l.made.items ≡ l.at;
  served : Each (Serving (length l.self.owners.items) l.self.pieces l.own l.at) l.self.owners.items;
  fresh : Each (IsFresh (map worker_deque l.initial.self.owners.items) l.initial.self.pieces) l.made.items;
}
