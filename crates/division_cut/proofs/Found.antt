-- A map is divided by what its keys have.
use Rattle.std.proofs.Common.{◌≡◌, ℕ, List, [], ◌∷◌, Bool, true, false, ◌||◌, if◌then◌else◌, Option, Some, refl, sym, ap, ◌∙◌, subst}
use Rattle.std.specs.Prelude.{is_some}
use Rattle.std.specs.Str.{bytes_eq}
use Rattle.ld_model.specs.Tree.{Tree, null, truth, whole, one_one, text, array, object, Pairs, Trees, no_trees, tree, Members, no_members, member, members_of, member_list, member_list-members_of, member_at}
use Rattle.ld_model.specs.Keys.{id_key, value_key, graph_key}
use Rattle.ld_model.proofs.Puts.{bytes_eq-sym, at_first, at_later}
use Rattle.node_model.specs.Keys.{type_key, list_key, index_key, reverse_key, included_key}
use Rattle.node_model.specs.Walk.{To, has_key, text_in, walk}
use Rattle.node_walk.specs.Found.{members_in, entered_by, graph_made}
use Rattle.op_model.specs.Names.{Name}
use Rattle.division_model.specs.Dividing.{Division, spine_noting, outside_lists, divide, divide_at, divide_reverse, divide_reverse_map, divide_reverse_properties, divide_properties}
use Rattle.division_model.specs.ByWeight.{by_weight, are_few}
use Rattle.division_laws.proofs.Spines.{items_in_spine}
use Rattle.division_cut.specs.Standing.{StandsFor, Makes}
use Rattle.division_cut.specs.Found.{found_divided, entered_at, inside_divided}
use Rattle.division_cut.proofs.Many.{HasMany, same_are_many, graph_has_many}
use Rattle.division_cut.proofs.Standing.{stands_here, stood}

module _ (limit : ℕ) where
  at_is : (g : Name) (key : List ℕ) (ms : Members) (d : Division) → divide_at (by_weight limit) g key ms d ≡ found_divided limit g (member_at key (member_list ms)) d
  at_is g key no_members d = refl
  at_is g key (member k t ms) d = by_test (bytes_eq k key) refl (at_is g key ms d)
    where
      by_test : (b : Bool) → bytes_eq k key ≡ b → divide_at (by_weight limit) g key ms d ≡ found_divided limit g (member_at key (member_list ms)) d
          → (if b then found_divided limit g (Some t) d else divide_at (by_weight limit) g key ms d) ≡ found_divided limit g (member_at key ((k, t) ∷ member_list ms)) d
      by_test true is rest = ap (λ o. found_divided limit g o d) (sym (at_first key (k, t) (member_list ms) (bytes_eq-sym key k ∙ is)))
      by_test false is rest = rest ∙ ap (λ o. found_divided limit g o d) (sym (at_later key (k, t) (member_list ms) (bytes_eq-sym key k ∙ is)))

  turned_is : (g id : Name) (t : Tree) (d : Division) → divide_reverse_map (by_weight limit) g id t d ≡ divide_reverse_properties (by_weight limit) g id (members_in (Some t)) d
  turned_is g id null d = refl
  turned_is g id (truth b) d = refl
  turned_is g id (whole n) d = refl
  turned_is g id one_one d = refl
  turned_is g id (text s) d = refl
  turned_is g id (array ts) d = refl
  turned_is g id (object ms) d = refl

  reverse_is : (g id : Name) (ms : Members) (d : Division)
      → divide_reverse (by_weight limit) g id ms d ≡ divide_reverse_properties (by_weight limit) g id (members_in (member_at reverse_key (member_list ms))) d
  reverse_is g id no_members d = refl
  reverse_is g id (member k t ms) d = by_test (bytes_eq k reverse_key) refl (reverse_is g id ms d)
    where
      by_test : (b : Bool) → bytes_eq k reverse_key ≡ b
          → divide_reverse (by_weight limit) g id ms d ≡ divide_reverse_properties (by_weight limit) g id (members_in (member_at reverse_key (member_list ms))) d
          → (if b then divide_reverse_map (by_weight limit) g id t d else divide_reverse (by_weight limit) g id ms d)
          ≡ divide_reverse_properties (by_weight limit) g id (members_in (member_at reverse_key ((k, t) ∷ member_list ms))) d
      by_test true is rest =
          turned_is g id t d
          ∙ ap (λ o. divide_reverse_properties (by_weight limit) g id (members_in o) d) (sym (at_first reverse_key (k, t) (member_list ms) (bytes_eq-sym reverse_key k ∙ is)))
      by_test false is rest =
          rest ∙ ap (λ o. divide_reverse_properties (by_weight limit) g id (members_in o) d) (sym (at_later reverse_key (k, t) (member_list ms) (bytes_eq-sym reverse_key k ∙ is)))

  -- What stands in a node object, whose keys are looked up in a list of pairs.
  abbrev inside_by : Name → Name → Members → Pairs → Division → Division
  inside_by g id ms l d =
      let turned = divide_reverse_properties (by_weight limit) g id (members_in (member_at reverse_key l)) d in
      let inside = found_divided limit id (member_at graph_key l) (graph_made spine_noting id (member_at graph_key l) turned) in
      divide_properties (by_weight limit) g id ms (found_divided limit g (member_at included_key l) inside)

  -- The same, as it is defined.
  abbrev within : Name → Name → Members → Division → Division
  within g id ms d =
      let turned = divide_reverse (by_weight limit) g id ms d in
      let made = if has_key graph_key ms then spine_noting.graph id turned else turned in
      divide_properties (by_weight limit) g id ms (divide_at (by_weight limit) g included_key ms (divide_at (by_weight limit) id graph_key ms made))

  within_is : (g id : Name) (ms : Members) (d : Division) → within g id ms d ≡ inside_by g id ms (member_list ms) d
  within_is g id ms d =
      let turned = divide_reverse_properties (by_weight limit) g id (members_in (member_at reverse_key (member_list ms))) d in
      let made = graph_made spine_noting id (member_at graph_key (member_list ms)) turned in
      let inside = found_divided limit id (member_at graph_key (member_list ms)) made in
      ap (λ e. divide_properties (by_weight limit) g id ms (divide_at (by_weight limit) g included_key ms (divide_at (by_weight limit) id graph_key ms (if has_key graph_key ms then spine_noting.graph id e else e)))) (reverse_is g id ms d)
      ∙ ap (λ e. divide_properties (by_weight limit) g id ms (divide_at (by_weight limit) g included_key ms e)) (at_is id graph_key ms made)
      ∙ ap (divide_properties (by_weight limit) g id ms) (at_is g included_key ms inside)

  -- A node object, whose keys are looked up in a list of pairs.
  abbrev node_by : Name → To Name → Members → Pairs → Division → Division
  node_by g to ms l d =
      let node = entered_at g to l d in
      inside_by g node.0 ms l node.1

  object_is : (g : Name) (to : To Name) (ms : Members) (d : Division) → (has_key value_key ms || has_key list_key ms) ≡ false
      → divide (by_weight limit) g to (object ms) d ≡ node_by g to ms (member_list ms) d
  object_is g to ms d part =
      let node = entered_at g to (member_list ms) d in
      ap (λ b. if b then (walk spine_noting g to (object ms) (outside_lists d)).state else within g node.0 ms node.1) part
      ∙ within_is g node.0 ms node.1

  node_is : (g : Name) (to : To Name) (ms : Pairs) (d : Division) → (has_key value_key (members_of ms) || has_key list_key (members_of ms)) ≡ false
      → (let node = entered_at g to ms d in inside_divided limit g node.0 ms node.1) ≡ divide (by_weight limit) g to (object (members_of ms)) d
  node_is g to ms d part = sym (object_is g to (members_of ms) d part ∙ ap (λ l. node_by g to (members_of ms) l d) (member_list-members_of ms))

  -- A node object, step by step.
  pub node_is_made : (g n : Name) (to : To Name) (ms : Pairs) (turned : Members) (inner included : Option Tree) (u v reversed made graph around last : Division)
      → (has_key value_key (members_of ms) || has_key list_key (members_of ms)) ≡ false → are_few u.chunks ≡ true
      → (n, v) ≡ entered_at g to ms u
      → turned ≡ members_in (member_at reverse_key ms) → inner ≡ member_at graph_key ms → included ≡ member_at included_key ms
      → Makes v reversed (divide_reverse_properties (by_weight limit) g n turned)
      → made ≡ graph_made spine_noting n inner reversed
      → Makes made graph (found_divided limit n inner)
      → Makes graph around (found_divided limit g included)
      → Makes around last (divide_properties (by_weight limit) g n (members_of ms))
      → Makes u last (divide (by_weight limit) g to (object (members_of ms)))
  node_is_made g n to ms turned inner included u v reversed made graph around last part few entered is_turned is_inner is_included first graph_is second third fourth d stands =
      subst (λ d. StandsFor last (divide (by_weight limit) g to (object (members_of ms)) d)) (stands.same few)
      (subst (StandsFor last) (node_is g to ms u part)
      (subst (λ (node : Name × Division). StandsFor last (inside_divided limit g node.0 ms node.1)) entered
      (subst (λ t. StandsFor last (divide_properties (by_weight limit) g n (members_of ms) (found_divided limit g (member_at included_key ms) (found_divided limit n (member_at graph_key ms) (graph_made spine_noting n (member_at graph_key ms) (divide_reverse_properties (by_weight limit) g n t v)))))) is_turned
      (subst (λ o. StandsFor last (divide_properties (by_weight limit) g n (members_of ms) (found_divided limit g (member_at included_key ms) (found_divided limit n o (graph_made spine_noting n o (divide_reverse_properties (by_weight limit) g n turned v)))))) is_inner
      (subst (λ o. StandsFor last (divide_properties (by_weight limit) g n (members_of ms) (found_divided limit g o (found_divided limit n inner (graph_made spine_noting n inner (divide_reverse_properties (by_weight limit) g n turned v)))))) is_included
      (fourth _ (third _ (second _ (stood reversed made (graph_made spine_noting n inner) graph_is (λ x many. graph_has_many n inner x many) _ (first v (stands_here v)))))))))))

  -- A value object or a list object.
  pub whole_is_made : (g : Name) (to : To Name) (t : Tree) (ms : Members) (u v : Division) → t ≡ object ms → (has_key value_key ms || has_key list_key ms) ≡ true
      → v ≡ (walk spine_noting g to t (outside_lists u)).state → Makes u v (divide (by_weight limit) g to (object ms))
  whole_is_made g to t ms u v is part walked d stands =
      subst (λ b. StandsFor v (if b then (walk spine_noting g to (object ms) (outside_lists d)).state else (let node = entered_at g to (member_list ms) d in within g node.0 ms node.1))) (sym part)
      (stood u v (λ x. (walk spine_noting g to (object ms) (outside_lists x)).state) (walked ∙ ap (λ t. (walk spine_noting g to t (outside_lists u)).state) is)
      (λ x many. same_are_many x (walk spine_noting g to (object ms) (outside_lists x)).state (items_in_spine g to (tree (object ms) no_trees) x).0 many) d stands)
