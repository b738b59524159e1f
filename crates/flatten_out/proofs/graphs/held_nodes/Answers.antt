use Rattle.std.proofs.Common.{◌≡◌, ◌++◌, sym, subst}
use Rattle.ld_model.specs.Tree.{AreAscending, put}
use Rattle.ld_tree.specs.View.{view, members_view}
use Rattle.node_logs.proofs.Once.{put_behind}
use Rattle.flatten_out.proofs.graphs.held_nodes.Goals as goal

pub loop-id-preserved : goal.loop-id-preserved
unfolding put
loop-id-preserved c =
    let left : members_view c.loop-id.held.entries ++ c.loop-id.id-iterator ≡ c.into_iter-id-iterator.result = c.loop-id.invariant in
    put_behind (members_view c.loop-id.held.entries) (members_view c.put_node.new.nodes.entries) (c.in-Some.id, view c.in-Some.node) c.next.new.self c.into_iter-id-iterator.result
    (subst AreAscending (sym c.into_iter-id-iterator.ensures.into_iter_gives.0) c.into_iter-id-iterator.ensures.into_iter_gives.1) (rw c.in-Some.ensures.steps at left) c.in_ok-put_node.ensures
