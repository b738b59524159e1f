use Rattle.std.proofs.Common.{[], ap, ◌∙◌}
use Rattle.sum_model.specs.Sums.{bare, at_node}
use Rattle.op_types.specs.View.{name_view}
use Rattle.subtree_summary.specs.declared.part.Part.{Part}
use Rattle.subtree_summary.specs.Parts.{key_in}
use Rattle.subtree_summary.proofs.Joining.{part_there, put_in_shard, changed_here}
use Rattle.subtree_summary.proofs.sharded.Sharded.make_node.Goals as goal

pub returns-clause-said : goal.returns-clause-said
returns-clause-said c k =
    let s = c.args.self.now in
    let node = name_view c.args.node.now in
    let part = c.index_mut.result.now in
    put_in_shard s.parts.items s.shards c.shard_of-shard.result k node part c.index_of.new.self (at_node (name_view c.args.graph.now) node bare)
    c.shard_of-shard.ensures
    (part_there s.parts.items s.shards c.shard_of-shard.result node part s.some s.long c.shard_of-shard.ensures c.index_mut.ensures.value)
    c.in_ok-index.ensures.said

pub returns-clause-key : goal.returns-clause-key
returns-clause-key c =
    let s = c.args.self.now in
    let part = c.index_mut.result.now in
    ap (λ es. key_in es c.in_ok-index.index) (changed_here (λ (r : Part). r.nodes.entries) [] s.parts.items c.shard_of-shard.result part c.index_of.new.self
    (part_there s.parts.items s.shards c.shard_of-shard.result (name_view c.args.node.now) part s.some s.long c.shard_of-shard.ensures c.index_mut.ensures.value))
    ∙ c.in_ok-index.ensures.key
