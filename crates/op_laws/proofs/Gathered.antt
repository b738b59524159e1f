-- Outside a list nothing is gathered: the list under way is after a walk what it was before.
use Rattle.std.proofs.Common.{◌≡◌, ℕ, List, Bool, true, false, if◌then◌else◌, refl}
use Rattle.std.specs.Str.{bytes_eq}
use Rattle.ld_model.specs.Tree.{Tree, Trees, Members, null, truth, whole, one_one, text, array, object, no_trees, tree, no_members, member}
use Rattle.ld_model.specs.Keys.{value_key, graph_key}
use Rattle.ctx_types.specs.Expansion.{is_keyword}
use Rattle.node_model.specs.Keys.{list_key, reverse_key, included_key}
use Rattle.node_model.specs.Walk.{Steps, To, nowhere, under, in_list, reverse, At, has_key, takes_values, value_into, node_into, entered, list_held, walk, walk_all, walk_at, walk_reverse, walk_reverse_map, walk_reverse_properties, walk_properties}

-- The place isn't inside a list.
abbrev pub is_outside : {N : Type 0} → To N → Bool
is_outside in_list = false
is_outside _ = true

module _ {S N E : Type 0} (p : Steps S N E) (items : List E) where
  abbrev Holds : At S E → Type 0
  Holds w = w.items ≡ items

  on_either_way : (c : Bool) (w v : At S E) → Holds w → Holds v → Holds (if c then w else v)
  on_either_way true w v first second = first
  on_either_way false w v first second = second

  value_holds : (g : N) (to : To N) (e : E) (w : At S E) → is_outside to ≡ true → Holds w → Holds (value_into p g to e w)
  value_holds g nowhere e w out is = is
  value_holds g (under n q) e w out is = is
  value_holds g in_list e w out is = absurd (cc)
  value_holds g (reverse n q) e w out is = is

  list_holds : (g : N) (to : To N) (w inner : At S E) → is_outside to ≡ true → Holds w → Holds (list_held p g to w inner)
  list_holds g nowhere w inner out is = is
  list_holds g (under n q) w inner out is = is
  list_holds g in_list w inner out is = absurd (cc)
  list_holds g (reverse n q) w inner out is = is

  node_holds : (g : N) (to : To N) (id : N) (w : At S E) → is_outside to ≡ true → Holds w → Holds (node_into p g to id w)
  node_holds g nowhere id w out is = is
  node_holds g (under n q) id w out is = is
  node_holds g in_list id w out is = absurd (cc)
  node_holds g (reverse n q) id w out is = is

  mutual
    pub walk_holds : (g : N) (to : To N) (t : Tree) (w : At S E) → is_outside to ≡ true → Holds w → Holds (walk p g to t w)
    walk_holds g to (array ts) w out is = all_hold g to ts w out is
    walk_holds g to (object ms) w out is =
        let node = entered p g to ms w in
        on_either_way (has_key value_key ms) _ _ (value_holds g to (p.value (object ms)) w out is)
        (on_either_way (has_key list_key ms) _ _ (on_either_way (takes_values to) _ _ (list_holds g to w _ out is) is)
        (properties_hold g node.0 ms _
        (at_holds g nowhere included_key ms _ refl
        (at_holds node.0 nowhere graph_key ms _ refl
        (reverse_holds g node.0 ms node.1 (node_holds g to node.0 (record { state = _; items = w.items }) out is))))))
    walk_holds g to null w out is = is
    walk_holds g to (truth x) w out is = is
    walk_holds g to (whole x) w out is = is
    walk_holds g to one_one w out is = is
    walk_holds g to (text x) w out is = is

    pub all_hold : (g : N) (to : To N) (ts : Trees) (w : At S E) → is_outside to ≡ true → Holds w → Holds (walk_all p g to ts w)
    all_hold g to no_trees w out is = is
    all_hold g to (tree t ts) w out is = all_hold g to ts _ out (walk_holds g to t w out is)

    at_holds : (g : N) (to : To N) (key : List ℕ) (ms : Members) (w : At S E) → is_outside to ≡ true → Holds w → Holds (walk_at p g to key ms w)
    at_holds g to key no_members w out is = is
    at_holds g to key (member k t ms) w out is = on_either_way (bytes_eq k key) _ _ (walk_holds g to t w out is) (at_holds g to key ms w out is)

    reverse_holds : (g : N) (id : N) (ms : Members) (w : At S E) → Holds w → Holds (walk_reverse p g id ms w)
    reverse_holds g id no_members w is = is
    reverse_holds g id (member k t ms) w is = on_either_way (bytes_eq k reverse_key) _ _ (reverse_map_holds g id t w is) (reverse_holds g id ms w is)

    reverse_map_holds : (g : N) (id : N) (t : Tree) (w : At S E) → Holds w → Holds (walk_reverse_map p g id t w)
    reverse_map_holds g id (object ms) w is = reverse_properties_hold g id ms w is
    reverse_map_holds g id null w is = is
    reverse_map_holds g id (truth x) w is = is
    reverse_map_holds g id (whole x) w is = is
    reverse_map_holds g id one_one w is = is
    reverse_map_holds g id (text x) w is = is
    reverse_map_holds g id (array x) w is = is

    reverse_properties_hold : (g : N) (id : N) (ms : Members) (w : At S E) → Holds w → Holds (walk_reverse_properties p g id ms w)
    reverse_properties_hold g id no_members w is = is
    reverse_properties_hold g id (member k t ms) w is =
        let q = p.named k w.state in
        reverse_properties_hold g id ms _ (on_either_way (is_keyword k) w _ is (walk_holds g (reverse id q.0) t (record { state = q.1; items = w.items }) refl is))

    properties_hold : (g : N) (id : N) (ms : Members) (w : At S E) → Holds w → Holds (walk_properties p g id ms w)
    properties_hold g id no_members w is = is
    properties_hold g id (member k t ms) w is =
        let q = p.property g id k w.state in
        properties_hold g id ms _ (on_either_way (is_keyword k) w _ is (walk_holds g (under id q.0) t (record { state = q.1; items = w.items }) refl is))
