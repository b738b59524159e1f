-- The traversal that divides, by what the keys of a map have, for the plan by weight.
use Rattle.std.specs.Prelude.{ℕ, List, [], Bool, if◌then◌else◌, Option, Some, None}
use Rattle.ld_model.specs.Tree.{Tree, Trees, Pairs, Members, no_members, members_of, member_at}
use Rattle.ld_model.specs.Keys.{id_key, graph_key}
use Rattle.ctx_types.specs.Expansion.{is_keyword}
use Rattle.node_model.specs.Keys.{type_key, index_key, reverse_key, included_key}
use Rattle.node_model.specs.Walk.{To, nowhere, under, reverse, text_in}
use Rattle.node_walk.specs.Found.{members_in, entered_by, graph_made}
use Rattle.op_model.specs.Names.{Name}
use Rattle.division_model.specs.Dividing.{Division, spine_noting, outside_lists, divide, divide_items, divide_reverse_properties, divide_properties}
use Rattle.division_model.specs.ByWeight.{marks, by_weight}

-- The members of a map, where there is one.
abbrev pub members_or_none : Option Pairs → Members
members_or_none (Some ms) = members_of ms
members_or_none None = no_members

-- A node object before what stands in it.
abbrev pub entered_at : Name → To Name → Pairs → Division → Name × Division
entered_at g to ms d =
    let node = entered_by spine_noting g to (member_at type_key ms) (text_in (member_at id_key ms)) (text_in (member_at index_key ms)) (outside_lists d) in
    (node.0, node.1.state)

module _ (limit : ℕ) where
  abbrev pub found_divided : Name → Option Tree → Division → Division
  found_divided g (Some t) d = divide (by_weight limit) g nowhere t d
  found_divided g None d = d

  -- What stands in it.
  abbrev pub inside_divided : Name → Name → Pairs → Division → Division
  inside_divided g id ms d =
      let turned = divide_reverse_properties (by_weight limit) g id (members_in (member_at reverse_key ms)) d in
      let inside = found_divided id (member_at graph_key ms) (graph_made spine_noting id (member_at graph_key ms) turned) in
      divide_properties (by_weight limit) g id (members_of ms) (found_divided g (member_at included_key ms) inside)

  -- An entry of a node object, as a property, and one of its reverse properties.
  abbrev pub property_divided : Name → Name → List ℕ → Tree → Division → Division
  property_divided g id k t d = if is_keyword k then d else let q = spine_noting.property g id k d in divide (by_weight limit) g (under id q.0) t q.1

  abbrev pub reverse_property_divided : Name → Name → List ℕ → Tree → Division → Division
  reverse_property_divided g id k t d = if is_keyword k then d else let q = spine_noting.named k d in divide (by_weight limit) g (reverse id q.0) t q.1
