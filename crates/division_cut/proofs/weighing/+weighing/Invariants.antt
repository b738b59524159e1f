-- Each call goes to a lighter part, or down a rank. What is left of the room beside the rest is what is left beside all.
use Rattle.std.proofs.Common.{◌≡◌, ◌+◌, ◌*◌, ◌≤◌, drop}
use Rattle.ld_model.specs.Tree.{weight, trees_weight, members_weight, trees_of, members_of}
use Rattle.ld_tree.specs.View.{view, trees_view}
use Rattle.division_cut.specs.Weighed.{left_of}
use Rattle.division_cut.proofs.weighing.+weighing.Given as goal

abbrev pub decreases-left_beside : goal.decreases-left_beside
decreases-left_beside l = 2 * weight (view l.value.now)

abbrev pub decreases-left_beside_items : goal.decreases-left_beside_items
decreases-left_beside_items l = 2 * trees_weight (trees_of (trees_view l.items.now)) + 1

abbrev pub decreases-left_beside_members : goal.decreases-left_beside_members
decreases-left_beside_members l = 2 * members_weight (members_of l.members.now) + 1

abbrev pub invariant-left_beside_items-loop-item : goal.invariant-left_beside_items-loop-item
invariant-left_beside_items-loop-item l = record {
  left : left_of l.room (trees_weight (trees_of (trees_view (drop l.item-index l.items)))) ≡ left_of l.initial.room (trees_weight (trees_of (trees_view l.items)));
  weighs : trees_weight (trees_of (trees_view (drop l.item-index l.items))) ≤ trees_weight (trees_of (trees_view l.items));
}

abbrev pub invariant-left_beside_members-loop-value : goal.invariant-left_beside_members-loop-value
invariant-left_beside_members-loop-value l = record {
  left : left_of l.room (members_weight (members_of l.value-iterator)) ≡ left_of l.initial.room (members_weight (members_of l.fn.members));
  weighs : members_weight (members_of l.value-iterator) ≤ members_weight (members_of l.fn.members);
}
