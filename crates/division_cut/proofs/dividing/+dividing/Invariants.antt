-- Each call goes to a lighter part of the document, or down a rank.
use Rattle.std.proofs.Common.{◌≡◌, ◌+◌, ◌-◌, ◌*◌, ◌≤◌, take, drop, None, []}
use Rattle.std.specs.Option.{option_map}
use Rattle.ld_model.specs.Tree.{weight, trees_weight, members_weight, trees_of, members_of}
use Rattle.ld_tree.specs.View.{view, trees_view}
use Rattle.node_walk.specs.Seen.{to_view}
use Rattle.node_walk.specs.Found.{found_weight}
use Rattle.op_types.specs.View.{name_view}
use Rattle.division_model.specs.Dividing.{Division, divide_properties, divide_reverse_properties}
use Rattle.division_model.specs.ByWeight.{by_weight}
use Rattle.division_cut.specs.Found.{members_or_none}
use Rattle.division_cut.specs.Standing.{StandsFor}
use Rattle.division_cut.specs.Turns.{rest_divided, IsLeft, IsLeftOf}
use Rattle.division_cut.specs.Views.{division_view}
use Rattle.division_cut.proofs.dividing.+dividing.Given as goal

abbrev pub decreases-divide_element : goal.decreases-divide_element
decreases-divide_element l = 6 * weight (view l.element.now)

abbrev pub decreases-divide_items : goal.decreases-divide_items
decreases-divide_items l = 6 * trees_weight (trees_of (trees_view l.items.now)) + 2

abbrev pub decreases-divide_item : goal.decreases-divide_item
decreases-divide_item l = 6 * weight (view l.item.now) + 1

abbrev pub decreases-divide_map : goal.decreases-divide_map
decreases-divide_map l = 6 * members_weight (members_of l.members.now) + 5

abbrev pub decreases-divide_found : goal.decreases-divide_found
decreases-divide_found l = 6 * found_weight (option_map (λ t. view t.now) l.found) + 1

abbrev pub decreases-divide_reverse_properties : goal.decreases-divide_reverse_properties
decreases-divide_reverse_properties l = 6 * members_weight (members_or_none (option_map (λ ms. ms.now) l.turned)) + 2

abbrev pub decreases-divide_reverse_property : goal.decreases-divide_reverse_property
decreases-divide_reverse_property l = 6 * weight (view l.value.now) + 1

abbrev pub decreases-divide_properties : goal.decreases-divide_properties
decreases-divide_properties l = 6 * members_weight (members_of l.members.now) + 2

abbrev pub decreases-divide_property : goal.decreases-divide_property
decreases-divide_property l = 6 * weight (view l.value.now) + 1

-- The items that are left, divided from here, come to what all come to.
abbrev pub invariant-divide_items-loop-number : goal.invariant-divide_items-loop-number
invariant-divide_items-loop-number l = record {
  before : l.first ≤ l.number;
  left : (d : Division) → StandsFor (division_view l.initial.division) d
      → IsLeft l.cut l.limit l.sum (name_view l.graph) (to_view name_view l.to) l.number (trees_view (take (l.number - l.first) (drop l.first l.items))) (trees_of (trees_view (drop l.number l.items)))
      (division_view l.division) (rest_divided l.cut l.limit None (name_view l.graph) (to_view name_view l.to) 0 [] (trees_of (trees_view l.items)) d);
  weighs : trees_weight (trees_of (trees_view (drop l.number l.items))) ≤ trees_weight (trees_of (trees_view l.items));
}

-- So do the entries that are left.
abbrev pub invariant-divide_properties-loop-key : goal.invariant-divide_properties-loop-key
invariant-divide_properties-loop-key l = record {
  left : (d : Division) → StandsFor (division_view l.initial.division) d
      → IsLeftOf (divide_properties (by_weight l.limit) (name_view l.graph) (name_view l.node) (members_of l.key-iterator)) (division_view l.division)
      (divide_properties (by_weight l.limit) (name_view l.graph) (name_view l.node) (members_of l.fn.members) d);
  weighs : members_weight (members_of l.key-iterator) ≤ members_weight (members_of l.fn.members);
}

abbrev pub invariant-divide_reverse_properties-loop-key : goal.invariant-divide_reverse_properties-loop-key
invariant-divide_reverse_properties-loop-key l = record {
  left : (d : Division) → StandsFor (division_view l.initial.division) d
      → IsLeftOf (divide_reverse_properties (by_weight l.limit) (name_view l.graph) (name_view l.node) (members_of l.key-iterator)) (division_view l.division)
      (divide_reverse_properties (by_weight l.limit) (name_view l.graph) (name_view l.node) (members_of l.initial.key-iterator) d);
  weighs : members_weight (members_of l.key-iterator) ≤ members_weight (members_of l.initial.key-iterator);
}
