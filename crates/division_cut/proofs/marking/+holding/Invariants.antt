-- Each call goes to a lighter part, or down a rank.
use Rattle.std.proofs.Common.{◌≡◌, ◌+◌, ◌*◌, ◌≤◌, drop}
use Rattle.ld_model.specs.Tree.{weight, trees_weight, members_weight, trees_of, members_of}
use Rattle.ld_tree.specs.View.{view, trees_view}
use Rattle.division_model.specs.ByWeight.{items_hold_cut, entries_hold_cut, reverse_entries_hold_cut}
use Rattle.division_cut.proofs.marking.+holding.Given as goal

abbrev pub decreases-holds_cut : goal.decreases-holds_cut
decreases-holds_cut l = 4 * weight (view l.element.now)

abbrev pub decreases-items_hold : goal.decreases-items_hold
decreases-items_hold l = 4 * trees_weight (trees_of (trees_view l.items.now)) + 1

abbrev pub decreases-entries_hold : goal.decreases-entries_hold
decreases-entries_hold l = 4 * members_weight (members_of l.members.now) + 3

abbrev pub decreases-entry_holds : goal.decreases-entry_holds
decreases-entry_holds l = 4 * weight (view l.value.now) + 2

abbrev pub decreases-reverse_holds : goal.decreases-reverse_holds
decreases-reverse_holds l = 4 * weight (view l.value.now) + 1

abbrev pub decreases-reverse_entries_hold : goal.decreases-reverse_entries_hold
decreases-reverse_entries_hold l = 4 * members_weight (members_of l.members.now) + 2

abbrev pub invariant-items_hold-loop-item : goal.invariant-items_hold-loop-item
invariant-items_hold-loop-item l = record {
  left : items_hold_cut l.limit (trees_of (trees_view (drop l.item-index l.items))) ≡ items_hold_cut l.limit (trees_of (trees_view l.items));
  weighs : trees_weight (trees_of (trees_view (drop l.item-index l.items))) ≤ trees_weight (trees_of (trees_view l.items));
}

abbrev pub invariant-entries_hold-loop-key : goal.invariant-entries_hold-loop-key
invariant-entries_hold-loop-key l = record {
  left : entries_hold_cut l.limit (members_of l.key-iterator) ≡ entries_hold_cut l.limit (members_of l.fn.members);
  weighs : members_weight (members_of l.key-iterator) ≤ members_weight (members_of l.fn.members);
}

abbrev pub invariant-reverse_entries_hold-loop-key : goal.invariant-reverse_entries_hold-loop-key
invariant-reverse_entries_hold-loop-key l = record {
  left : reverse_entries_hold_cut l.limit (members_of l.key-iterator) ≡ reverse_entries_hold_cut l.limit (members_of l.fn.members);
  weighs : members_weight (members_of l.key-iterator) ≤ members_weight (members_of l.fn.members);
}
