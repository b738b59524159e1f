use Rattle.std.proofs.Common.{[], ◌∷◌}
use Rattle.op_types.specs.View.{name_view}
use Rattle.subtree_summary.proofs.Joining.{part_there, put_in_shard}
use Rattle.subtree_summary.proofs.sharded.Sharded.make_graph.Goals as goal

pub returns-clause-said : goal.returns-clause-said
returns-clause-said c k =
    let s = c.args.self.now in
    let graph = name_view c.args.graph.now in
    let part = c.index_mut.result.now in
    put_in_shard s.parts.items s.shards c.shard_of-shard.result k graph part c.add_graph.new.self (record { graphs = graph ∷ []; nodes = [] })
    c.shard_of-shard.ensures
    (part_there s.parts.items s.shards c.shard_of-shard.result graph part s.some s.long c.shard_of-shard.ensures c.index_mut.ensures.value)
    c.in_ok-add_graph.ensures.said
