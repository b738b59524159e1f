use Rattle.std.proofs.Common.{◌≡◌, length}
use Rattle.steal_pool.specs.Pools.{Each, Dealing}
use Rattle.steal_pool.proofs.deal.Dealer.deal.Given as goal

abbrev pub invariant-loop-piece : goal.invariant-loop-piece
invariant-loop-piece l = record {
  pieces : l.self.pieces ≡ l.initial.self.pieces;
  long : length l.self.owners.items ≡ length l.initial.self.owners.items;
  dealt : Each (Dealing (length l.self.owners.items) l.piece 0) l.self.owners.items;
}
