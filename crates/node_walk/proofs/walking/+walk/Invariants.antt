-- Each call goes to a lighter part of the document, or down a rank.
use Rattle.std.proofs.Common.{◌≡◌, ◌+◌, ◌*◌, ◌≤◌}
use Rattle.std.specs.Option.{option_map}
use Rattle.ld_model.specs.Tree.{weight, trees_weight, members_weight, trees_of, members_of}
use Rattle.ld_tree.specs.View.{view}
use Rattle.node_model.specs.Walk.{walk_all, walk_properties, walk_reverse_properties}
use Rattle.node_walk.specs.Seen.{to_view}
use Rattle.node_walk.specs.Found.{found_weight}
use Rattle.node_walk.proofs.walking.+walk.Given as goal

abbrev pub decreases-walk_items : goal.decreases-walk_items
decreases-walk_items g l = 5 * trees_weight (trees_of l.items) + 1

abbrev pub decreases-walk_element : goal.decreases-walk_element
decreases-walk_element g l = 5 * weight (view l.element)

abbrev pub decreases-walk_found : goal.decreases-walk_found
decreases-walk_found g l = 5 * found_weight (option_map view l.found) + 1

abbrev pub decreases-walk_map : goal.decreases-walk_map
decreases-walk_map g l = 5 * members_weight (members_of l.members) + 4

abbrev pub decreases-walk_list : goal.decreases-walk_list
decreases-walk_list g l = 5 * members_weight (members_of l.members) + 3

abbrev pub decreases-walk_node : goal.decreases-walk_node
decreases-walk_node g l = 5 * members_weight (members_of l.members) + 3

abbrev pub decreases-walk_reverse_properties : goal.decreases-walk_reverse_properties
decreases-walk_reverse_properties g l = 5 * members_weight (members_of l.members) + 2

abbrev pub decreases-walk_reverse_property : goal.decreases-walk_reverse_property
decreases-walk_reverse_property g l = 5 * weight (view l.value) + 1

abbrev pub decreases-walk_properties : goal.decreases-walk_properties
decreases-walk_properties g l = 5 * members_weight (members_of l.members) + 2

abbrev pub decreases-walk_property : goal.decreases-walk_property
decreases-walk_property g l = 5 * weight (view l.value) + 1

-- What is left, walked from here, comes to what all comes to, and is no heavier.
abbrev pub invariant-walk_items-loop-item : goal.invariant-walk_items-loop-item
invariant-walk_items-loop-item g l = record {
  left : walk_all g.G.Gather.steps (g.G.Gather.name l.graph) (to_view g.G.Gather.name l.to) (trees_of l.item-iterator) (record { state = g.G.Gather.state l.map; items = g.G.Gather.items l.gathered })
      ≡ walk_all g.G.Gather.steps (g.G.Gather.name l.graph) (to_view g.G.Gather.name l.to) (trees_of l.fn.items) (record { state = g.G.Gather.state l.initial.map; items = g.G.Gather.items l.initial.gathered });
  weighs : trees_weight (trees_of l.item-iterator) ≤ trees_weight (trees_of l.fn.items);
}

abbrev pub invariant-walk_properties-loop-key : goal.invariant-walk_properties-loop-key
invariant-walk_properties-loop-key g l = record {
  left : walk_properties g.G.Gather.steps (g.G.Gather.name l.graph) (g.G.Gather.name l.node) (members_of l.key-iterator) (record { state = g.G.Gather.state l.map; items = g.G.Gather.items l.gathered })
      ≡ walk_properties g.G.Gather.steps (g.G.Gather.name l.graph) (g.G.Gather.name l.node) (members_of l.fn.members) (record { state = g.G.Gather.state l.initial.map; items = g.G.Gather.items l.initial.gathered });
  weighs : members_weight (members_of l.key-iterator) ≤ members_weight (members_of l.fn.members);
}

abbrev pub invariant-walk_reverse_properties-loop-key : goal.invariant-walk_reverse_properties-loop-key
invariant-walk_reverse_properties-loop-key g l = record {
  left : walk_reverse_properties g.G.Gather.steps (g.G.Gather.name l.graph) (g.G.Gather.name l.node) (members_of l.key-iterator) (record { state = g.G.Gather.state l.map; items = g.G.Gather.items l.gathered })
      ≡ walk_reverse_properties g.G.Gather.steps (g.G.Gather.name l.graph) (g.G.Gather.name l.node) (members_of l.fn.members) (record { state = g.G.Gather.state l.initial.map; items = g.G.Gather.items l.initial.gathered });
  weighs : members_weight (members_of l.key-iterator) ≤ members_weight (members_of l.fn.members);
}
