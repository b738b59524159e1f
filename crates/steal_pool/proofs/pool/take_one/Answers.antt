use Rattle.std.proofs.Common.{◌<◌, subst, sym}
use Rattle.steal_pool.specs.declared.hand.Hand.{Hand}
use Rattle.steal_pool.proofs.pool.take_one.Goals as goal
use Rattle.steal_pool.proofs.Moves.{takes}

pub steal_as-requires-clause-takes : goal.steal_as-requires-clause-takes
steal_as-requires-clause-takes g c = takes _ _ (subst (λ (v : Hand). 0 < v.parts) (sym c.loop.invariant.same) c.requires.parts)
