use Rattle.std.proofs.Common.{◌≡◌, ◌++◌, ◌∷◌, List, ℕ}
use Rattle.std.proofs.lemmas.Map.Iter.{rest_more}
use Rattle.ld_tree.specs.View.{view, members_view}
use Rattle.ld_tree.specs.declared.value.Tree.{Tree}
use Rattle.expand_values.proofs.Entries.{ascending-view, put_behind}
use Rattle.expand_values.proofs.draft.members_of.Goals as goal

pub loop-key-preserved : goal.loop-key-preserved
loop-key-preserved c =
    let e : List ℕ × Tree = (c.in-Some.key, c.in-Some.value) in
    let step : c.loop-key.key-iterator ≡ e ∷ c.next.new.self = rest_more (λ x. x) _ _ _ _ c.in-Some.is c.next.ensures.steps in
    let left : c.loop-key.members ++ members_view c.loop-key.key-iterator ≡ members_view c.args.entries.entries = c.loop-key.invariant in
    put_behind c.loop-key.members c.set.new.self (c.in-Some.key, view c.in-Some.value) (members_view c.next.new.self) (members_view c.args.entries.entries)
    (ascending-view c.args.entries.entries c.into_iter-key-iterator.ensures.into_iter_gives.5) (rw step at left) c.in_ok-set.ensures.ok
