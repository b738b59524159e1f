use Rattle.std.proofs.Common.{◌≡◌, ℕ, length, subst, arith}
use Rattle.steal_pool.specs.Pools.{Each, Dealing}
use Rattle.steal_pool.proofs.deal.Dealer.deal.Goals as goal

pub returns-clause-dealt : goal.returns-clause-dealt
returns-clause-dealt c =
    let all : c.loop-piece.piece ≡ c.loop-piece.self.pieces = omega (arith, c.loop-piece-test.false, c.loop-piece.auto.piece-end, c.loop-piece.invariant.pieces) in
    subst (λ (n : ℕ). Each (Dealing (length c.loop-piece.self.owners.items) n 0) c.loop-piece.self.owners.items) all c.loop-piece.invariant.dealt
