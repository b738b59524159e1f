use Rattle.steal_pool.proofs.deal.token.Goals as goal
use Rattle.steal_pool.proofs.Moves.{shares, rests}

pub another-requires : goal.another-requires
another-requires c = rests _ _ c.requires.some

pub another-requires-else-is_last : goal.another-requires-else-is_last
another-requires-else-is_last c = shares _ _ (c.requires.more c.if-is_last.false)
