-- The traversal of a map by what its keys have, where keys are looked up and what they have is taken out.
use Rattle.std.specs.Prelude.{ℕ, List, [], ◌∷◌, ◌++◌, ◌≡◌, ◌≤◌, false, not, if◌then◌else◌, Option, Some, None, is_some}
use Rattle.std.specs.List.{filter, list_any}
use Rattle.std.specs.Str.{bytes_eq}
use Rattle.ld_model.specs.Tree.{Tree, Pairs, Members, object, no_members, members_of, member_at, weight, members_weight}
use Rattle.ld_model.specs.Keys.{id_key, value_key, graph_key}
use Rattle.ctx_types.specs.Expansion.{is_keyword}
use Rattle.node_model.specs.Keys.{type_key, list_key, index_key, reverse_key, included_key}
use Rattle.node_model.specs.Walk.{Steps, To, nowhere, under, in_list, reverse, At, text_in, texts_of, takes_values, value_into, node_into, types_into, index_into, names, held, list_held, walk, walk_reverse_properties, walk_properties}

-- How many values there are in what a key has.
abbrev pub found_weight : Option Tree → ℕ
found_weight (Some t) = weight t
found_weight None = 0

-- The members of the map that a key has.
abbrev pub members_in : Option Tree → Members
members_in (Some (object ms)) = ms
members_in _ = no_members

-- The members that are properties.
abbrev pub properties_in : Pairs → Pairs
properties_in ms = filter (λ m. not (is_keyword m.0)) ms

-- What may be left of a map once these keywords were taken out: the other keys have what they had, and its properties are all there.
pub record IsLeft (taken : List (List ℕ)) (all left : Pairs) : Type 0 where
  pub others : (key : List ℕ) → list_any (bytes_eq key) taken ≡ false → member_at key left ≡ member_at key all
  pub properties : properties_in left ≡ properties_in all
  pub weighs : members_weight (members_of left) ≤ members_weight (members_of all)

module _ {S N E : Type 0} (p : Steps S N E) where
  -- The names so far and those that come of further texts.
  abbrev pub more_names : List N → List (List ℕ) → S → List N × S
  more_names ns ts s = let more = names p ts s in (ns ++ more.0, more.1)

  -- The names so far and that of a text, where there is one.
  abbrev pub next_name : List N → Option (List ℕ) → S → List N × S
  next_name ns (Some t) s = let made = p.named t s in (ns ++ made.0 ∷ [], made.1)
  next_name ns None s = (ns, s)

  -- A node object before what stands in it, by what `@type`, `@id` and `@index` have.
  abbrev pub entered_by : N → To N → Option Tree → Option (List ℕ) → Option (List ℕ) → At S E → N × At S E
  entered_by g to types id index w =
      let named = names p (texts_of types) w.state in
      let node = p.node g id named.1 in
      let there = node_into p g to node.0 (record { state = node.1; items = w.items }) in
      let typed = types_into p g node.0 named.0 there.state in
      (node.0, record { state = index_into p g node.0 index typed; items = there.items })

  abbrev pub found_into : N → To N → Option Tree → At S E → At S E
  found_into g to (Some t) w = walk p g to t w
  found_into g to None w = w

  -- The graph is made where `@graph` is there.
  abbrev pub graph_made : N → Option Tree → S → S
  graph_made id inner s = if is_some inner then p.graph id s else s

  -- What stands in a node object, by what `@reverse`, `@graph` and `@included` have, and by its properties.
  abbrev pub inside_by : N → N → Members → Option Tree → Option Tree → Members → At S E → At S E
  inside_by g id turned inner included ms w =
      let reversed = walk_reverse_properties p g id turned w in
      let graph = found_into id nowhere inner (record { state = graph_made id inner reversed.state; items = reversed.items }) in
      walk_properties p g id ms (found_into g nowhere included graph)

  abbrev pub inside : N → N → Pairs → At S E → At S E
  inside g id ms w = inside_by g id (members_in (member_at reverse_key ms)) (member_at graph_key ms) (member_at included_key ms) (members_of ms) w

  abbrev pub node_object : N → To N → Pairs → At S E → At S E
  node_object g to ms w =
      let node = entered_by g to (member_at type_key ms) (text_in (member_at id_key ms)) (text_in (member_at index_key ms)) w in
      inside g node.0 ms node.1

  abbrev pub list_object : N → To N → Pairs → At S E → At S E
  list_object g to ms w =
      if takes_values to then list_held p g to w (found_into g in_list (member_at list_key ms) (record { state = w.state; items = [] })) else w

  abbrev pub map_into : N → To N → Pairs → At S E → At S E
  map_into g to ms w =
      if is_some (member_at value_key ms) then value_into p g to (p.value (object (members_of ms))) w
      else if is_some (member_at list_key ms) then list_object g to ms w
      else node_object g to ms w

  -- A member of a map, as a property of a node, and as one of its reverse properties.
  abbrev pub property_into : N → N → List ℕ → Tree → At S E → At S E
  property_into g id k t w =
      if is_keyword k then w else let q = held w (p.property g id k w.state) in walk p g (under id q.0) t q.1

  abbrev pub reverse_property_into : N → N → List ℕ → Tree → At S E → At S E
  reverse_property_into g id k t w =
      if is_keyword k then w else let q = held w (p.named k w.state) in walk p g (reverse id q.0) t q.1
