use Rattle.std.proofs.Common.{◌≡◌, ◌++◌, ◌∷◌, List, ℕ, ap, ◌∙◌}
use Rattle.std.specs.BTreeMap.{BTreeMap, insert_entry}
use Rattle.std.proofs.lemmas.Map.Iter.{rest_more}
use Rattle.ld_model.specs.Tree.{Pairs, object, members_of, byte_order}
use Rattle.node_model.specs.AsTrees.{graph_pair, graph_pairs}
use Rattle.node_logs.specs.Views.{graph_view, graphs_view}
use Rattle.node_logs.specs.declared.node.Node.{Node}
use Rattle.node_logs.proofs.Once.{put_behind}
use Rattle.node_logs.proofs.Pairs.{graphs_ascend}
use Rattle.node_logs.proofs.finishing.graphs_of.Goals as goal

pub loop-name-preserved : goal.loop-name-preserved
loop-name-preserved c =
    let e : List ℕ × BTreeMap (List ℕ) Node = (c.in-Some.name, c.in-Some.nodes) in
    let step : c.loop-name.name-iterator ≡ e ∷ c.next.new.self = rest_more (λ x. x) _ _ _ _ c.in-Some.is c.next.ensures.steps in
    let left : c.loop-name.members ++ graph_pairs (graphs_view c.loop-name.name-iterator) ≡ graph_pairs (graphs_view c.args.graphs.entries) = c.loop-name.invariant in
    put_behind c.loop-name.members c.set.new.self (graph_pair (e.0, graph_view e.1.entries)) (graph_pairs (graphs_view c.next.new.self)) (graph_pairs (graphs_view c.args.graphs.entries))
    (graphs_ascend c.args.graphs.entries c.into_iter-name-iterator.ensures.into_iter_gives.5) (rw step at left)
    (c.in_ok-set.ensures.ok ∙ ap (λ (ms : Pairs). insert_entry byte_order c.loop-name.members c.in-Some.name (object (members_of ms))) c.in_ok-nodes.ensures)
