use Rattle.steal_pool.proofs.deal.put.Goals as goal
use Rattle.steal_pool.proofs.Moves.{puts}

pub push_as-requires-clause-pushes : goal.push_as-requires-clause-pushes
push_as-requires-clause-pushes c = puts _ _ _ c.requires.parts c.requires.fresh
