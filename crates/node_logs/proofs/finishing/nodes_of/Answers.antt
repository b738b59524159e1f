use Rattle.std.proofs.Common.{◌≡◌, ◌++◌, ◌∷◌, List, ℕ, ap, ◌∙◌}
use Rattle.std.specs.Prelude.{map}
use Rattle.std.specs.BTreeMap.{insert_entry}
use Rattle.std.proofs.lemmas.Map.Iter.{rest_more}
use Rattle.ld_model.specs.Tree.{Pairs, object, members_of, byte_order}
use Rattle.node_model.specs.AsTrees.{node_pair}
use Rattle.node_logs.specs.Log.{node_view}
use Rattle.node_logs.specs.Views.{graph_view}
use Rattle.node_logs.specs.declared.node.Node.{Node}
use Rattle.node_logs.proofs.Once.{put_behind}
use Rattle.node_logs.proofs.Pairs.{nodes_ascend}
use Rattle.node_logs.proofs.finishing.nodes_of.Goals as goal

pub loop-id-preserved : goal.loop-id-preserved
loop-id-preserved c =
    let e : List ℕ × Node = (c.in-Some.id, c.in-Some.node) in
    let step : c.loop-id.id-iterator ≡ e ∷ c.next.new.self = rest_more (λ x. x) _ _ _ _ c.in-Some.is c.next.ensures.steps in
    let left : c.loop-id.members ++ map node_pair (graph_view c.loop-id.id-iterator) ≡ map node_pair (graph_view c.args.nodes.entries) = c.loop-id.invariant in
    put_behind c.loop-id.members c.set.new.self (node_pair (e.0, node_view e.1)) (map node_pair (graph_view c.next.new.self)) (map node_pair (graph_view c.args.nodes.entries))
    (nodes_ascend c.args.nodes.entries c.into_iter-id-iterator.ensures.into_iter_gives.5) (rw step at left)
    (c.in_ok-set.ensures.ok ∙ ap (λ (ms : Pairs). insert_entry byte_order c.loop-id.members c.in-Some.id (object (members_of ms))) c.in_ok-node.ensures)
