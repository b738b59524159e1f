use Rattle.std.proofs.Common.{◌≡◌, ◌++◌, ◌∷◌, List, ℕ}
use Rattle.std.proofs.lemmas.Map.Iter.{rest_more}
use Rattle.ld_tree.specs.View.{view, members_view}
use Rattle.ld_tree.specs.declared.value.Tree.{Tree}
use Rattle.node_logs.proofs.GraphLemmas.{ascending-shown}
use Rattle.node_logs.proofs.Once.{put_behind}
use Rattle.flatten_out.proofs.graphs.members_of.Goals as goal

pub loop-id-preserved : goal.loop-id-preserved
loop-id-preserved c =
    let e : List ℕ × Tree = (c.in-Some.id, c.in-Some.node) in
    let step : c.loop-id.id-iterator ≡ e ∷ c.next.new.self = rest_more (λ x. x) _ _ _ _ c.in-Some.is c.next.ensures.steps in
    let left : c.loop-id.members ++ members_view c.loop-id.id-iterator ≡ members_view c.args.nodes.entries = c.loop-id.invariant in
    put_behind c.loop-id.members c.set.new.self (c.in-Some.id, view c.in-Some.node) (members_view c.next.new.self) (members_view c.args.nodes.entries)
    (ascending-shown (λ k v. view v) c.args.nodes.entries c.into_iter-id-iterator.ensures.into_iter_gives.5) (rw step at left) c.in_ok-set.ensures.ok
