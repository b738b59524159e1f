use Rattle.std.proofs.Common.{◌≡◌, ◌++◌}
use Rattle.ld_model.specs.Flatten.{nodes_of}
use Rattle.ld_tree.specs.View.{view}
use Rattle.flatten_out.proofs.Turns.{one_more}
use Rattle.flatten_out.proofs.nodes.nodes_of.Goals as goal

pub loop-node-preserved : goal.loop-node-preserved
loop-node-preserved c =
    let left : c.loop-node.nodes ++ nodes_of c.loop-node.node-iterator ≡ nodes_of c.into_iter-node-iterator.result = c.loop-node.invariant in
    one_more c.loop-node.nodes c.add_node.new.nodes (c.in-Some.field-0-0, view c.in-Some.node) c.next.new.self c.into_iter-node-iterator.result
    (rw c.in-Some.ensures.steps at left) (c.in_ok-add_node.ensures c.in-Some.field-0-0)
