use Rattle.steal_pool.proofs.Seats.{pass_at, stays_ready, took_at}
use Rattle.steal_pool.proofs.pool.take_at.Goals as goal

pub take_one-requires-clause-pass : goal.take_one-requires-clause-pass
take_one-requires-clause-pass g c = pass_at _ _ _ _ _ c.requires.ready c.requires.range c.index.ensures c.index_mut.ensures.value

pub returns-clause-ready : goal.returns-clause-ready
returns-clause-ready g c = (stays_ready _ _ _ _ _ _ c.take_one.result c.requires.ready c.requires.range c.index.ensures c.index_mut.ensures.value c.take_one.ensures.same c.take_one.ensures.took).0

pub returns-clause-same : goal.returns-clause-same
returns-clause-same g c = (stays_ready _ _ _ _ _ _ c.take_one.result c.requires.ready c.requires.range c.index.ensures c.index_mut.ensures.value c.take_one.ensures.same c.take_one.ensures.took).1

pub returns-clause-took : goal.returns-clause-took
returns-clause-took g c = took_at c.args.thieves.now.items _ _ _ _ c.take_one.result c.requires.ready c.requires.range c.index_mut.ensures.value c.take_one.ensures.took
