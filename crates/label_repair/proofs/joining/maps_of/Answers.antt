use Rattle.std.proofs.Common.{◌≡◌, ◌++◌, ◌∷◌, List, ℕ, ap, ◌∙◌}
use Rattle.std.specs.Global.{Vec}
use Rattle.std.specs.BTreeMap.{insert_entry}
use Rattle.std.proofs.lemmas.Map.Iter.{rest_more}
use Rattle.ld_model.specs.Tree.{Pairs, object, members_of, byte_order}
use Rattle.ld_tree.specs.Built.{built}
use Rattle.ld_tree.specs.declared.value.Tree.{Tree}
use Rattle.node_logs.proofs.Once.{put_behind}
use Rattle.label_repair.specs.Finished.{graph_trees}
use Rattle.label_repair.specs.Shards.{pairs_view, built_view}
use Rattle.label_repair.proofs.Finished.{trees_ascend}
use Rattle.label_repair.proofs.joining.maps_of.Goals as goal

pub loop-name-preserved : goal.loop-name-preserved
loop-name-preserved c =
    let e : List ℕ × Vec (List ℕ × Tree) = (c.in-Some.name, c.in-Some.pairs) in
    let step : c.loop-name.name-iterator ≡ e ∷ c.next.new.self = rest_more (λ x. x) _ _ _ _ c.in-Some.is c.next.ensures.steps in
    let left : c.loop-name.members ++ graph_trees (built_view c.loop-name.name-iterator) ≡ graph_trees (built_view c.args.graphs.entries) = c.loop-name.invariant in
    put_behind c.loop-name.members c.set.new.self (e.0, object (members_of (built (pairs_view e.1)))) (graph_trees (built_view c.next.new.self)) (graph_trees (built_view c.args.graphs.entries))
    (trees_ascend c.args.graphs.entries c.into_iter-name-iterator.ensures.into_iter_gives.5) (rw step at left)
    (c.in_ok-set.ensures.ok ∙ ap (λ (ms : Pairs). insert_entry byte_order c.loop-name.members c.in-Some.name (object (members_of ms))) c.in_ok-nodes.ensures)
