use Rattle.steal_pool.proofs.Dealers.{flavors}
use Rattle.steal_pool.proofs.pool.Pool.open.Goals as goal

pub deal-requires-clause-empty : goal.deal-requires-clause-empty
deal-requires-clause-empty c = c.in_ok-dealer.ensures.2

pub thieves-requires : goal.thieves-requires
thieves-requires c = flavors _ _ _ _ c.in_ok-deal.ensures.dealt

pub seats-requires-clause-dealt : goal.seats-requires-clause-dealt
seats-requires-clause-dealt c = c.in_ok-deal.ensures.dealt
