-- Each call goes to a lighter value, or down a rank.
use Rattle.std.proofs.Common.{◌≡◌, ◌+◌, ◌*◌, ◌≤◌, drop, []}
use Rattle.ld_model.specs.Tree.{weight, trees_weight, members_weight, trees_of, members_of}
use Rattle.ld_tree.specs.View.{view, trees_view}
use Rattle.expand_model.specs.Over.{items_over, entries_over, nests_over, nest_items_over, index_entries_over}
use Rattle.expand_types.specs.View.{options_view, scope_view}
use Rattle.expand_contexts.specs.Memo.{MayRecall}
use Rattle.tree_expand.specs.View.{at_view, inside_view}
use Rattle.tree_expand.proofs.recursion.+expansion.Given as goal

abbrev pub decreases-element : goal.decreases-element
decreases-element g l = 10 * weight (view l.value.now) + 1

abbrev pub decreases-remembered : goal.decreases-remembered
decreases-remembered g l = 10 * weight (view l.value.now)

abbrev pub decreases-items : goal.decreases-items
decreases-items g l = 10 * trees_weight (trees_of (trees_view l.items.now)) + 6

abbrev pub decreases-turn : goal.decreases-turn
decreases-turn g l = 10 * weight (view l.item.now) + 4

abbrev pub decreases-one : goal.decreases-one
decreases-one g l = 10 * weight (view l.item.now) + 2

abbrev pub decreases-tried : goal.decreases-tried
decreases-tried g l = 10 * weight (view l.item.now) + 2

abbrev pub decreases-node : goal.decreases-node
decreases-node g l = 10 * members_weight (members_of l.members.now) + 9

abbrev pub decreases-mapped : goal.decreases-mapped
decreases-mapped g l = 10 * members_weight (members_of l.members.now) + 8

abbrev pub decreases-walk : goal.decreases-walk
decreases-walk g l = 10 * members_weight (members_of l.members.now) + 7

abbrev pub decreases-entries : goal.decreases-entries
decreases-entries g l = 10 * members_weight (members_of l.members.now) + 6

abbrev pub decreases-entry : goal.decreases-entry
decreases-entry g l = 10 * weight (view l.value.now) + 4

abbrev pub decreases-value_taken : goal.decreases-value_taken
decreases-value_taken g l = 10 * weight (view l.value.now) + 2

abbrev pub decreases-indexes_taken : goal.decreases-indexes_taken
decreases-indexes_taken g l = 10 * weight (view l.value.now) + 3

abbrev pub decreases-indexes : goal.decreases-indexes
decreases-indexes g l = 10 * weight (view l.value.now) + 2

abbrev pub decreases-index_entries : goal.decreases-index_entries
decreases-index_entries g l = 10 * members_weight (members_of l.members.now) + 6

abbrev pub decreases-index_entry : goal.decreases-index_entry
decreases-index_entry g l = 10 * weight (view l.value.now) + 4

abbrev pub decreases-nests : goal.decreases-nests
decreases-nests g l = 10 * members_weight (members_of l.members.now) + 6

abbrev pub decreases-nest : goal.decreases-nest
decreases-nest g l = 10 * weight (view l.value.now) + 4

abbrev pub decreases-nested : goal.decreases-nested
decreases-nested g l = 10 * weight (view l.value.now) + 2

abbrev pub decreases-nest_items : goal.decreases-nest_items
decreases-nest_items g l = 10 * trees_weight (trees_of (trees_view l.items.now)) + 6

abbrev pub decreases-nest_item : goal.decreases-nest_item
decreases-nest_item g l = 10 * weight (view l.item.now) + 4

-- What is left, taken from here, comes to what all comes to.
abbrev pub invariant-items-loop-place : goal.invariant-items-loop-place
invariant-items-loop-place g l =
    record {
      recalls : MayRecall (options_view l.options) (scope_view l.at.scope) l.memo;
      left : items_over (options_view l.options) g.R.Ranges.asked g.R.Ranges.settles (trees_of (trees_view (drop l.place l.items))) l.more (l.first + l.place) (at_view l.at) l.out l.ranges ≡ items_over (options_view l.options) g.R.Ranges.asked g.R.Ranges.settles (trees_of (trees_view l.items)) 0 l.first (at_view l.at) [] l.initial.ranges;
    }

abbrev pub invariant-nest_items-loop-number : goal.invariant-nest_items-loop-number
invariant-nest_items-loop-number g l =
    nest_items_over (options_view l.options) g.R.Ranges.asked g.R.Ranges.settles (trees_of (trees_view (drop l.number l.items))) l.number l.key (inside_view l.inside) l.made l.ranges ≡ nest_items_over (options_view l.options) g.R.Ranges.asked g.R.Ranges.settles (trees_of (trees_view l.items)) 0 l.key (inside_view l.inside) l.initial.made l.initial.ranges

abbrev pub invariant-entries-loop-key : goal.invariant-entries-loop-key
invariant-entries-loop-key g l =
    record {
      left : entries_over (options_view l.options) g.R.Ranges.asked g.R.Ranges.settles (members_of l.key-iterator) (inside_view l.inside) l.made l.ranges ≡ entries_over (options_view l.options) g.R.Ranges.asked g.R.Ranges.settles (members_of l.initial.key-iterator) (inside_view l.inside) l.initial.made l.initial.ranges;
      lighter : members_weight (members_of l.key-iterator) ≤ members_weight (members_of l.initial.key-iterator);
    }

abbrev pub invariant-nests-loop-key : goal.invariant-nests-loop-key
invariant-nests-loop-key g l =
    record {
      left : nests_over (options_view l.options) g.R.Ranges.asked g.R.Ranges.settles (members_of l.key-iterator) (inside_view l.inside) l.made l.ranges ≡ nests_over (options_view l.options) g.R.Ranges.asked g.R.Ranges.settles (members_of l.initial.key-iterator) (inside_view l.inside) l.initial.made l.initial.ranges;
      lighter : members_weight (members_of l.key-iterator) ≤ members_weight (members_of l.initial.key-iterator);
    }

abbrev pub invariant-index_entries-loop-index : goal.invariant-index_entries-loop-index
invariant-index_entries-loop-index g l =
    record {
      left : index_entries_over (options_view l.options) g.R.Ranges.asked g.R.Ranges.settles (members_of l.index-iterator) l.key (inside_view l.inside) l.out l.ranges ≡ index_entries_over (options_view l.options) g.R.Ranges.asked g.R.Ranges.settles (members_of l.initial.index-iterator) l.key (inside_view l.inside) [] l.initial.ranges;
      lighter : members_weight (members_of l.index-iterator) ≤ members_weight (members_of l.initial.index-iterator);
    }
