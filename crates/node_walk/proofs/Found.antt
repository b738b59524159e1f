-- The traversal of a map by what its keys have is the traversal.
use Rattle.std.proofs.Common.{◌≡◌, ℕ, List, [], ◌∷◌, Bool, true, false, cond, if◌then◌else◌, Option, Some, refl, sym, ap, ◌∙◌}
use Rattle.std.specs.Prelude.{is_some, not}
use Rattle.std.specs.Str.{bytes_eq}
use Rattle.ld_model.specs.Tree.{Tree, null, truth, whole, one_one, text, array, object, Pairs, Members, no_members, member, members_of, member_list, member_list-members_of, member_at}
use Rattle.ld_model.specs.Keys.{id_key, value_key, graph_key}
use Rattle.ld_model.proofs.Puts.{bytes_eq-sym, at_first, at_later}
use Rattle.ctx_types.specs.Expansion.{is_keyword}
use Rattle.node_model.specs.Keys.{type_key, list_key, index_key, reverse_key, included_key}
use Rattle.node_model.specs.Walk.{Steps, To, nowhere, in_list, At, text_in, takes_values, entered, value_into, list_held, with_graph, walk, walk_at, walk_reverse, walk_reverse_map, walk_reverse_properties, walk_properties}
use Rattle.node_walk.specs.Found.{IsLeft, members_in, properties_in, entered_by, found_into, graph_made, inside_by, inside, node_object, map_into, property_into}

module _ {S N E : Type 0} (p : Steps S N E) where
  at_is : (g : N) (to : To N) (key : List ℕ) (ms : Members) (w : At S E) → walk_at p g to key ms w ≡ found_into p g to (member_at key (member_list ms)) w
  at_is g to key no_members w = refl
  at_is g to key (member k t ms) w = by_test (bytes_eq k key) refl (at_is g to key ms w)
    where
      by_test : (b : Bool) → bytes_eq k key ≡ b → walk_at p g to key ms w ≡ found_into p g to (member_at key (member_list ms)) w
          → (if b then walk p g to t w else walk_at p g to key ms w) ≡ found_into p g to (member_at key ((k, t) ∷ member_list ms)) w
      by_test true is rest = ap (λ o. found_into p g to o w) (sym (at_first key (k, t) (member_list ms) (bytes_eq-sym key k ∙ is)))
      by_test false is rest = rest ∙ ap (λ o. found_into p g to o w) (sym (at_later key (k, t) (member_list ms) (bytes_eq-sym key k ∙ is)))

  turned_is : (g id : N) (t : Tree) (w : At S E) → walk_reverse_map p g id t w ≡ walk_reverse_properties p g id (members_in (Some t)) w
  turned_is g id null w = refl
  turned_is g id (truth b) w = refl
  turned_is g id (whole n) w = refl
  turned_is g id one_one w = refl
  turned_is g id (text s) w = refl
  turned_is g id (array ts) w = refl
  turned_is g id (object ms) w = refl

  reverse_is : (g id : N) (ms : Members) (w : At S E) → walk_reverse p g id ms w ≡ walk_reverse_properties p g id (members_in (member_at reverse_key (member_list ms))) w
  reverse_is g id no_members w = refl
  reverse_is g id (member k t ms) w = by_test (bytes_eq k reverse_key) refl (reverse_is g id ms w)
    where
      by_test : (b : Bool) → bytes_eq k reverse_key ≡ b → walk_reverse p g id ms w ≡ walk_reverse_properties p g id (members_in (member_at reverse_key (member_list ms))) w
          → (if b then walk_reverse_map p g id t w else walk_reverse p g id ms w) ≡ walk_reverse_properties p g id (members_in (member_at reverse_key ((k, t) ∷ member_list ms))) w
      by_test true is rest =
          turned_is g id t w
          ∙ ap (λ o. walk_reverse_properties p g id (members_in o) w) (sym (at_first reverse_key (k, t) (member_list ms) (bytes_eq-sym reverse_key k ∙ is)))
      by_test false is rest =
          rest ∙ ap (λ o. walk_reverse_properties p g id (members_in o) w) (sym (at_later reverse_key (k, t) (member_list ms) (bytes_eq-sym reverse_key k ∙ is)))

  -- What stands in a node object.
  abbrev within : N → N → Members → At S E → At S E
  within g id ms w =
      walk_properties p g id ms (walk_at p g nowhere included_key ms (walk_at p id nowhere graph_key ms (with_graph p id ms (walk_reverse p g id ms w))))

  within_is : (g id : N) (ms : Members) (w : At S E)
      → within g id ms w ≡ inside_by p g id (members_in (member_at reverse_key (member_list ms))) (member_at graph_key (member_list ms)) (member_at included_key (member_list ms)) ms w
  within_is g id ms w =
      let reversed = walk_reverse_properties p g id (members_in (member_at reverse_key (member_list ms))) w in
      let graph = found_into p id nowhere (member_at graph_key (member_list ms)) (with_graph p id ms reversed) in
      ap (λ v. walk_properties p g id ms (walk_at p g nowhere included_key ms (walk_at p id nowhere graph_key ms (with_graph p id ms v)))) (reverse_is g id ms w)
      ∙ ap (λ v. walk_properties p g id ms (walk_at p g nowhere included_key ms v)) (at_is id nowhere graph_key ms (with_graph p id ms reversed))
      ∙ ap (walk_properties p g id ms) (at_is g nowhere included_key ms graph)

  -- A map whose keys are looked up in a list of pairs.
  abbrev map_by : N → To N → Members → At S E → Pairs → At S E
  map_by g to ms w l =
      if is_some (member_at value_key l) then value_into p g to (p.value (object ms)) w
      else if is_some (member_at list_key l) then
      (if takes_values to then list_held p g to w (found_into p g in_list (member_at list_key l) (record { state = w.state; items = [] })) else w)
      else
      let node = entered_by p g to (member_at type_key l) (text_in (member_at id_key l)) (text_in (member_at index_key l)) w in
      inside_by p g node.0 (members_in (member_at reverse_key l)) (member_at graph_key l) (member_at included_key l) ms node.1

  object_is : (g : N) (to : To N) (ms : Members) (w : At S E) → walk p g to (object ms) w ≡ map_by g to ms w (member_list ms)
  object_is g to ms w =
      let node = entered p g to ms w in
      let list = at_is g in_list list_key ms (record { state = w.state; items = [] }) in
      let parts = within_is g node.0 ms node.1 in
      λ i. if is_some (member_at value_key (member_list ms)) then value_into p g to (p.value (object ms)) w
      else if is_some (member_at list_key (member_list ms)) then (if takes_values to then list_held p g to w (list i) else w)
      else parts i

  pub map_walked : (g : N) (to : To N) (t : Tree) (ms : Pairs) (w last : At S E) → t ≡ object (members_of ms) → last ≡ map_into p g to ms w → last ≡ walk p g to t w
  map_walked g to t ms w last is is_last =
      is_last ∙ sym (ap (λ t. walk p g to t w) is ∙ object_is g to (members_of ms) w ∙ ap (map_by g to (members_of ms) w) (member_list-members_of ms))

  -- Keywords among the properties make no difference.
  properties_are : (g id : N) (ms : Pairs) (w : At S E) → walk_properties p g id (members_of (properties_in ms)) w ≡ walk_properties p g id (members_of ms) w
  properties_are g id [] w = refl
  properties_are g id (m ∷ ms) w = by_test (is_keyword m.0) refl (properties_are g id ms)
    where
      by_test : (b : Bool) → is_keyword m.0 ≡ b → ((v : At S E) → walk_properties p g id (members_of (properties_in ms)) v ≡ walk_properties p g id (members_of ms) v)
          → walk_properties p g id (members_of (properties_in (m ∷ ms))) w ≡ walk_properties p g id (members_of ms) (property_into p g id m.0 m.1 w)
      by_test true is rest = rw is (rest w)
      by_test false is rest =
          ap (λ b. walk_properties p g id (members_of (cond (not b) (m ∷ properties_in ms) (properties_in ms))) w) is ∙ rest (property_into p g id m.0 m.1 w)

  same_properties : (g id : N) (left all : Pairs) (w : At S E) → properties_in left ≡ properties_in all → walk_properties p g id (members_of left) w ≡ walk_properties p g id (members_of all) w
  same_properties g id left all w same =
      sym (properties_are g id left w) ∙ ap (λ ms. walk_properties p g id (members_of ms) w) same ∙ properties_are g id all w

  -- What stands in a node object, where its parts were taken after its types, its id and its index.
  inside_left : (g id : N) (all left rest : Pairs) (turned : Members) (inner included : Option Tree) (w : At S E)
      → IsLeft (index_key ∷ id_key ∷ type_key ∷ []) all left
      → turned ≡ members_in (member_at reverse_key left) → inner ≡ member_at graph_key left → included ≡ member_at included_key left
      → properties_in rest ≡ properties_in left
      → inside_by p g id turned inner included (members_of rest) w ≡ inside p g id all w
  inside_left g id all left rest turned inner included w so is_turned is_inner is_included same =
      same_properties g id rest all _ (same ∙ so.properties)
      ∙ (λ i. inside_by p g id
      ((is_turned ∙ ap members_in (so.others reverse_key refl)) i) ((is_inner ∙ so.others graph_key refl) i) ((is_included ∙ so.others included_key refl) i) (members_of all) w)

  -- What stands in a node object is walked in this order: what `@reverse` has, then what `@graph` has, in the graph that is made
  -- first, then what `@included` has, and the properties last.
  inside_walked : (g id : N) (turned : Members) (inner included : Option Tree) (rest : Pairs) (entered reversed graph around last : At S E) (made : S)
      → reversed ≡ walk_reverse_properties p g id turned entered
      → made ≡ graph_made p id inner reversed.state
      → graph ≡ found_into p id nowhere inner (record { state = made; items = reversed.items })
      → around ≡ found_into p g nowhere included graph
      → last ≡ walk_properties p g id (members_of rest) around
      → last ≡ inside_by p g id turned inner included (members_of rest) entered
  inside_walked g id turned inner included rest entered reversed graph around last made is_reversed is_made is_graph is_around is_last =
      is_last
      ∙ ap (walk_properties p g id (members_of rest))
      (is_around
      ∙ ap (found_into p g nowhere included)
      (is_graph
      ∙ (λ i. found_into p id nowhere inner (record { state = (is_made ∙ ap (λ (w : At S E). graph_made p id inner w.state) is_reversed) i; items = (is_reversed i).items }))))

  -- A node object is entered by its types, its id and its index, and then what stands in it is walked.
  pub node_walked : (g id : N) (to : To N) (all left rest : Pairs) (types inner included : Option Tree) (name index : Option (List ℕ)) (turned : Members) (w entered reversed graph around last : At S E) (made : S)
      → types ≡ member_at type_key all → name ≡ text_in (member_at id_key all) → index ≡ text_in (member_at index_key all)
      → IsLeft (index_key ∷ id_key ∷ type_key ∷ []) all left
      → turned ≡ members_in (member_at reverse_key left) → inner ≡ member_at graph_key left → included ≡ member_at included_key left
      → properties_in rest ≡ properties_in left
      → (id, entered) ≡ entered_by p g to types name index w
      → reversed ≡ walk_reverse_properties p g id turned entered
      → made ≡ graph_made p id inner reversed.state
      → graph ≡ found_into p id nowhere inner (record { state = made; items = reversed.items })
      → around ≡ found_into p g nowhere included graph
      → last ≡ walk_properties p g id (members_of rest) around
      → last ≡ node_object p g to all w
  node_walked g id to all left rest types inner included name index turned w entered reversed graph around last made
      is_types is_name is_index so is_turned is_inner is_included same is_entered is_reversed is_made is_graph is_around is_last =
      inside_walked g id turned inner included rest entered reversed graph around last made is_reversed is_made is_graph is_around is_last
      ∙ inside_left g id all left rest turned inner included entered so is_turned is_inner is_included same
      ∙ ap (λ (n : N × At S E). inside p g n.0 all n.1) (is_entered ∙ (λ i. entered_by p g to (is_types i) (is_name i) (is_index i) w))
