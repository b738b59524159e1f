use Rattle.op_types.specs.View.{name_view}
use Rattle.subtree_summary.specs.Summing.{part_at}
use Rattle.subtree_summary.proofs.Joining.{told_of_made}
use Rattle.subtree_summary.proofs.sharded.Sharded.other_row.Goals as goal

pub returns-clause-said : goal.returns-clause-said
returns-clause-said c k e =
    told_of_made c.args.self.now.shards k (name_view c.args.graph.now, name_view c.args.node.now) (part_at c.make_node.new.self.parts.items k) (part_at c.args.self.now.parts.items k) e (c.in_ok-row.ensures.said k)
