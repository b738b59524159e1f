-- Of which graphs the node objects of a flattened document state something.
use Rattle.std.proofs.Common.{◌≡◌, ℕ, List, [], ◌∷◌, ◌++◌, Bool, true, false, ◌&&◌, ◌||◌, if◌then◌else◌, Option, Some, None, is_some, refl, sym, ap, ◌∙◌, subst}
use Rattle.std.specs.Prelude.{⊤, map as each}
use Rattle.std.proofs.lemmas.List.Folds.{list_any-append}
use Rattle.std.specs.Str.{bytes_eq}
use Rattle.std.specs.List.{AllByRecursion, list_any}
use Rattle.ld_model.specs.Tree.{Tree, Trees, Members, Pairs, null, truth, whole, one_one, text, array, object, no_trees, tree, no_members, member, trees_of, member_list, member_at, AreAscending}
use Rattle.ld_model.specs.Keys.{id_key, value_key, graph_key, default_graph}
use Rattle.ld_model.specs.NodeMap.{reference}
use Rattle.ld_model.proofs.Puts.{bytes_eq-exact, at_first, at_later, ascending_head, ascending_tail}
use Rattle.ld_model.proofs.SameMembers.{missing}
use Rattle.ld_model.proofs.Truths.{both}
use Rattle.ctx_types.specs.Expansion.{is_keyword}
use Rattle.node_model.specs.Keys.{list_key, index_key}
use Rattle.node_model.specs.Labels.{named}
use Rattle.node_model.specs.NodeMap.{list_object}
use Rattle.node_model.specs.DueForm.{is_entry, is_lone, are_entries}
use Rattle.node_model.specs.Walk.{To, nowhere, under, in_list, reverse, At, has_key, text_at, types_in, takes_values, value_into, types_into, index_into, list_held, held, with_graph, walk, walk_all, walk_at, walk_properties}
use Rattle.node_laws.specs.Stated.{it_is, a_property, an_entry, a_type, an_index, object_in, Statement, of_graph, of_node, Stating, stating, is_of_graph}
use Rattle.node_laws.proofs.Likeness.{Likeness, Pairwise, Reach, AnswerAlike, lasts_here}
use Rattle.node_laws.proofs.Alike.{all_beside}
use Rattle.node_laws.proofs.Idle.{idle, idle_items}
use Rattle.node_laws.proofs.Restated.{has_array, lone_reference, several, value_walked, walk_none, walk_found, IsFine, a_keyword, entries_of}
use Rattle.node_laws.proofs.RestatedNodes.{IsItem, IsNested, a_node, IsTop, alone, with_part, entered_named, object_is, contents_are}

module _ (h : List ℕ) where
  abbrev pub about : At Stating Tree → Bool
  about w = list_any (is_of_graph h) w.state.stated

  one_more : (b : Bool) (stated : List Statement) (x : Statement) → is_of_graph h x ≡ b → (list_any (is_of_graph h) (stated ++ x ∷ []) || b) ≡ (list_any (is_of_graph h) stated || b)
  one_more b stated x is = ap (λ c. c || b) (list_any-append (is_of_graph h) stated (x ∷ []) ∙ ap (λ c. list_any (is_of_graph h) stated || (c || false)) is) ∙ absorbed (list_any (is_of_graph h) stated) b
    where
      absorbed : (a b : Bool) → ((a || (b || false)) || b) ≡ (a || b)
      absorbed true b = refl
      absorbed false true = refl
      absorbed false false = refl

  -- In a graph, nothing is stated of another one.
  module _ (g : List ℕ) where
    abbrev Stays : At Stating Tree → At Stating Tree → Type 0
    Stays w v = (about v || bytes_eq h g) ≡ (about w || bytes_eq h g)

    value_stays : (to : To (List ℕ)) (e : Tree) (w : At Stating Tree) → Stays w (value_into stating g to e w)
    value_stays nowhere e w = refl
    value_stays (under n q) e w = one_more (bytes_eq h g) w.state.stated (of_node g n (an_entry q e)) refl
    value_stays in_list e w = refl
    value_stays (reverse n q) e w = refl

    list_stays : (to : To (List ℕ)) (w v : At Stating Tree) → Stays w v → Stays w (list_held stating g to w v)
    list_stays nowhere w v is = is
    list_stays (under n q) w v is = one_more (bytes_eq h g) v.state.stated (of_node g n (an_entry q (list_object v.items))) refl ∙ is
    list_stays in_list w v is = is
    list_stays (reverse n q) w v is = is

    reference_stays : (x : List ℕ) (to : To (List ℕ)) (w : At Stating Tree) → takes_values to ≡ true → Stays w (walk stating g to (reference x) w)
    reference_stays x nowhere w takes = absurd (cc)
    reference_stays x (under n q) w takes =
        let name = (named x w.state.labels).0 in
        one_more (bytes_eq h g) (w.state.stated ++ of_node g name it_is ∷ []) (of_node g n (an_entry q (reference name))) refl ∙ one_more (bytes_eq h g) w.state.stated (of_node g name it_is) refl
    reference_stays x in_list w takes = one_more (bytes_eq h g) w.state.stated (of_node g (named x w.state.labels).0 it_is) refl
    reference_stays x (reverse n q) w takes = absurd (cc)

    value_is_stays : (ms : Members) (to : To (List ℕ)) (w : At Stating Tree) → has_key value_key ms ≡ true → Stays w (walk stating g to (object ms) w)
    value_is_stays ms to w is = subst (Stays w) (sym (value_walked g ms to w is)) (value_stays to (object ms) w)

    simple_stays : (ms : Members) (to : To (List ℕ)) (w : At Stating Tree) → has_array ms ≡ false → is_entry (object ms) ≡ true → takes_values to ≡ true → Stays w (walk stating g to (object ms) w)
    simple_stays ms to w none is takes = by_kind (has_key value_key ms) refl
      where
        by_kind : (b : Bool) → has_key value_key ms ≡ b → Stays w (walk stating g to (object ms) w)
        by_kind true is_value = value_is_stays ms to w is_value
        by_kind false other =
            let lone = lone_reference ms none (sym (ap (λ b. b || is_lone ms) other) ∙ is) in
            subst (λ ms. Stays w (walk stating g to (object ms) w)) (sym lone.1) (reference_stays lone.0 to w takes)

    array_stays : (key : List ℕ) (es : Trees) (to : To (List ℕ)) (w : At Stating Tree) → is_entry (object (member key (array es) no_members)) ≡ true → takes_values to ≡ true
        → (are_entries es ≡ true → Stays w (walk_all stating g in_list es (record { state = w.state; items = [] }))) → Stays w (walk stating g to (object (member key (array es) no_members)) w)
    array_stays key es to w is takes inner = by_kind (has_key value_key (member key (array es) no_members)) refl
      where
        list_of : (b c : Bool) → ((b && false) || (c && are_entries es)) ≡ true → (c ≡ true) × (are_entries es ≡ true)
        list_of true true is = (refl, is)
        list_of false true is = (refl, is)
        list_of true false is = absurd (cc)
        list_of false false is = absurd (cc)

        by_kind : (b : Bool) → has_key value_key (member key (array es) no_members) ≡ b → Stays w (walk stating g to (object (member key (array es) no_members)) w)
        by_kind true is_value = value_is_stays (member key (array es) no_members) to w is_value
        by_kind false other =
            let list = list_of (bytes_eq key id_key) (bytes_eq key list_key) (sym (ap (λ b. b || is_lone (member key (array es) no_members)) other) ∙ is) in
            subst (λ x. Stays w (walk stating g to (object (member x (array es) no_members)) w)) (sym (bytes_eq-exact key list_key list.0))
            (subst (λ b. Stays w (if b then list_held stating g to w (walk_all stating g in_list es (record { state = w.state; items = [] })) else w)) (sym takes)
            (list_stays to w (walk_all stating g in_list es (record { state = w.state; items = [] })) (inner list.1)))

    mutual
      entry_stays : (t : Tree) (to : To (List ℕ)) (w : At Stating Tree) → is_entry t ≡ true → takes_values to ≡ true → Stays w (walk stating g to t w)
      entry_stays (object ms) to w is takes = members_stay ms to w is takes
      entry_stays null to w is takes = absurd (cc)
      entry_stays (truth b) to w is takes = absurd (cc)
      entry_stays (whole n) to w is takes = absurd (cc)
      entry_stays one_one to w is takes = absurd (cc)
      entry_stays (text s) to w is takes = absurd (cc)
      entry_stays (array ts) to w is takes = absurd (cc)

      members_stay : (ms : Members) (to : To (List ℕ)) (w : At Stating Tree) → is_entry (object ms) ≡ true → takes_values to ≡ true → Stays w (walk stating g to (object ms) w)
      members_stay (member key (array es) no_members) to w is takes = array_stays key es to w is takes (λ entries. all_stay es in_list (record { state = w.state; items = [] }) entries refl)
      members_stay no_members to w is takes = simple_stays no_members to w refl is takes
      members_stay (member key null no_members) to w is takes = simple_stays (member key null no_members) to w refl is takes
      members_stay (member key (truth b) no_members) to w is takes = simple_stays (member key (truth b) no_members) to w refl is takes
      members_stay (member key (whole n) no_members) to w is takes = simple_stays (member key (whole n) no_members) to w refl is takes
      members_stay (member key one_one no_members) to w is takes = simple_stays (member key one_one no_members) to w refl is takes
      members_stay (member key (text s) no_members) to w is takes = simple_stays (member key (text s) no_members) to w refl is takes
      members_stay (member key (object os) no_members) to w is takes = simple_stays (member key (object os) no_members) to w refl is takes
      members_stay (member key t (member l u ms)) to w is takes = simple_stays (member key t (member l u ms)) to w (several key t l u ms) is takes

      all_stay : (ts : Trees) (to : To (List ℕ)) (w : At Stating Tree) → are_entries ts ≡ true → takes_values to ≡ true → Stays w (walk_all stating g to ts w)
      all_stay no_trees to w is takes = refl
      all_stay (tree t ts) to w is takes =
          let parts = both (is_entry t) (are_entries ts) is in
          all_stay ts to (walk stating g to t w) parts.1 takes ∙ entry_stays t to w parts.0 takes

    property_stays : (n q : List ℕ) (t : Tree) (w : At Stating Tree) → IsFine q t → Stays w (if is_keyword q then w else let r = held w (stating.property g n q w.state) in walk stating g (under n r.0) t r.1)
    property_stays n q t w (a_keyword word) = subst (λ b. Stays w (if b then w else let r = held w (stating.property g n q w.state) in walk stating g (under n r.0) t r.1)) (sym word) refl
    property_stays n q t w (entries_of apart other ts is entries names) =
        let r = held w (stating.property g n q w.state) in
        subst (λ b. Stays w (if b then w else walk stating g (under n r.0) t r.1)) (sym apart)
        (subst (λ t. Stays w (walk stating g (under n r.0) t r.1)) (sym is)
        (all_stay ts (under n r.0) r.1 entries refl ∙ one_more (bytes_eq h g) w.state.stated (of_node g n (a_property r.0)) refl))

    properties_stay : (n : List ℕ) (ms : Members) (w : At Stating Tree) → AllByRecursion (λ m. IsFine m.0 m.1) (member_list ms) → Stays w (walk_properties stating g n ms w)
    properties_stay n no_members w fine = refl
    properties_stay n (member q t ms) w fine =
        properties_stay n ms (if is_keyword q then w else let r = held w (stating.property g n q w.state) in walk stating g (under n r.0) t r.1) fine.1 ∙ property_stays n q t w fine.0

    types_stay : (id : List ℕ) (ts : List (List ℕ)) (s : Stating) → (list_any (is_of_graph h) (types_into stating g id ts s).stated || bytes_eq h g) ≡ (list_any (is_of_graph h) s.stated || bytes_eq h g)
    types_stay id [] s = refl
    types_stay id (t ∷ ts) s = types_stay id ts (stating.type_ g id t s) ∙ one_more (bytes_eq h g) s.stated (of_node g id (a_type t)) refl

    index_stays : (id : List ℕ) (o : Option (List ℕ)) (s : Stating) → (list_any (is_of_graph h) (index_into stating g id o s).stated || bytes_eq h g) ≡ (list_any (is_of_graph h) s.stated || bytes_eq h g)
    index_stays id (Some i) s = one_more (bytes_eq h g) s.stated (of_node g id (an_index i)) refl
    index_stays id None s = refl

    heads_stay : (id : List ℕ) (ms : Members) (w : At Stating Tree) → Stays w (entered_named g w (types_in ms) (text_at index_key ms) (id, w.state.labels)).1
    heads_stay id ms w =
        let made : Stating = record { labels = w.state.labels; stated = w.state.stated ++ of_node g id it_is ∷ [] } in
        index_stays id (text_at index_key ms) (types_into stating g id (types_in ms) made) ∙ types_stay id (types_in ms) made ∙ one_more (bytes_eq h g) w.state.stated (of_node g id it_is) refl

    -- A node object, with what its graph adds.
    item_states : (id : List ℕ) (ms : Members) (w : At Stating Tree) (more : Bool) → IsItem id ms
        → ((v : At Stating Tree) → about (walk_at stating id nowhere graph_key ms (with_graph stating id ms v)) ≡ (about v || more))
        → (about (walk stating g nowhere (object ms) w) || bytes_eq h g) ≡ ((about w || bytes_eq h g) || more)
    item_states id ms w more is inner =
        let v = (entered_named g w (types_in ms) (text_at index_key ms) (id, w.state.labels)).1 in
        let u = walk_at stating id nowhere graph_key ms (with_graph stating id ms v) in
        ap (λ z. about z || bytes_eq h g) (object_is g id ms w is ∙ contents_are g id ms v is)
        ∙ properties_stay id ms u is.fine
        ∙ ap (λ b. b || bytes_eq h g) (inner v)
        ∙ turned (about v) more (bytes_eq h g)
        ∙ ap (λ b. b || more) (heads_stay id ms w)
      where
        turned : (a b c : Bool) → ((a || b) || c) ≡ ((a || c) || b)
        turned true b c = refl
        turned false true true = refl
        turned false true false = refl
        turned false false true = refl
        turned false false false = refl

    no_graph_states : (id : List ℕ) (ms : Members) (v : At Stating Tree) → member_at graph_key (member_list ms) ≡ None → about (walk_at stating id nowhere graph_key ms (with_graph stating id ms v)) ≡ (about v || false)
    no_graph_states id ms v none =
        ap about (walk_none stating id nowhere graph_key ms (with_graph stating id ms v) none ∙ ap (λ o. record { state = if is_some o then stating.graph id v.state else v.state; items = v.items }) none) ∙ alone_is (about v)
      where
        alone_is : (b : Bool) → b ≡ (b || false)
        alone_is true = refl
        alone_is false = refl

    or_false : (b : Bool) → (b || false) ≡ b
    or_false true = refl
    or_false false = refl

    pair_stays : (m : List ℕ × Tree) (w : At Stating Tree) → IsNested m → Stays w (walk stating g nowhere m.1 w)
    pair_stays m w (a_node ms is item none) =
        subst (λ t. Stays w (walk stating g nowhere t w)) (sym is) (item_states m.0 ms w false item (λ v. no_graph_states m.0 ms v none) ∙ or_false (about w || bytes_eq h g))

    pub pairs_stay : (nodes : Pairs) (w : At Stating Tree) → AllByRecursion IsNested nodes → Stays w (walk_all stating g nowhere (trees_of (each (λ m. m.1) nodes)) w)
    pairs_stay [] w all = refl
    pairs_stay (m ∷ nodes) w all = pairs_stay nodes (walk stating g nowhere m.1 w) all.1 ∙ pair_stays m w all.0

  -- What was stated stays.
  abbrev stated_once : Likeness Stating (List ℕ) Tree ⊤ ⊤ ⊤
  stated_once = record { states = λ s t. list_any (is_of_graph h) s.stated ≡ true; names = λ s n m. ⊤; properties = λ s n m. ⊤; entries = λ s e f. ⊤ }

  reach : (s r : Stating) → list_any (is_of_graph h) r.stated ≡ true → Reach stated_once s r tt
  reach s r is = record { states = is; lasts = record { names = λ n m is. is; properties = λ n m is. is; entries = λ e f is. is } }

  still : (stated : List Statement) (x : Statement) → list_any (is_of_graph h) stated ≡ true → list_any (is_of_graph h) (stated ++ x ∷ []) ≡ true
  still stated x is = list_any-append (is_of_graph h) stated (x ∷ []) ∙ ap (λ b. b || list_any (is_of_graph h) (x ∷ [])) is

  steps_keep : AnswerAlike stated_once stating idle
  steps_keep = record {
    named = λ x s t is. (reach s _ is, tt, λ apart. tt);
    node = λ g n id s t graph is. (reach s _ (still s.stated _ is), tt);
    property = λ g n m k x s t apart graph id is. (reach s _ (still s.stated _ is), tt);
    graph = λ g n s t graph is. reach s _ (still s.stated _ is);
    value = λ ms s is. tt;
    reference = λ n m s is. tt;
    list = λ es fs s is. tt;
    add = λ g k n m p q e f s t graph id property entry is. reach s _ (still s.stated _ is);
    append = λ g k n m p q es fs s t graph id property entries is. reach s _ (still s.stated _ is);
    type_ = λ g k n m x y s t graph id name is. reach s _ (still s.stated _ is);
    index = λ g k n m x s t graph id is. reach s _ (still s.stated _ is);
  }

  any_items : (es : List Tree) → Pairwise (λ e f. ⊤) es (idle_items es)
  any_items [] = tt
  any_items (e ∷ es) = (tt, any_items es)

  about_stays : (g : List ℕ) (ts : Trees) (w : At Stating Tree) → about w ≡ true → about (walk_all stating g nowhere ts w) ≡ true
  about_stays g ts w is =
      (all_beside stated_once stating idle steps_keep g tt nowhere nowhere ts w.state w (record { state = tt; items = idle_items w.items }) tt tt
      (record { states = is; gathered = any_items w.items; lasts = lasts_here stated_once w.state })).states

  -- A graph, with its nodes.
  graph_states : (id : List ℕ) (ms : Members) (nodes : Pairs) (v : At Stating Tree) → member_at graph_key (member_list ms) ≡ Some (array (trees_of (each (λ m. m.1) nodes))) → AllByRecursion IsNested nodes
      → about (walk_at stating id nowhere graph_key ms (with_graph stating id ms v)) ≡ (about v || bytes_eq h id)
  graph_states id ms nodes v is all =
      let u : At Stating Tree = record { state = stating.graph id v.state; items = v.items } in
      let made : with_graph stating id ms v ≡ u = ap (λ o. record { state = if is_some o then stating.graph id v.state else v.state; items = v.items }) is in
      ap about (walk_found stating id nowhere graph_key ms (array (trees_of (each (λ m. m.1) nodes))) (with_graph stating id ms v) is ∙ ap (walk_all stating id nowhere (trees_of (each (λ m. m.1) nodes))) made)
      ∙ by_name (bytes_eq h id) refl
    where
      or_true : (b : Bool) → (b || true) ≡ true
      or_true true = refl
      or_true false = refl

      last_is : (b : Bool) → bytes_eq h id ≡ b → about (record { state = stating.graph id v.state; items = v.items }) ≡ (about v || b)
      last_is b same = list_any-append (is_of_graph h) v.state.stated (of_graph id ∷ []) ∙ ap (λ b. about v || (b || false)) same ∙ ap (λ b. about v || b) (or_none b)
        where
          or_none : (b : Bool) → (b || false) ≡ b
          or_none true = refl
          or_none false = refl

      or_same : (b : Bool) → (b || false) ≡ b
      or_same true = refl
      or_same false = refl

      by_name : (b : Bool) → bytes_eq h id ≡ b → about (walk_all stating id nowhere (trees_of (each (λ m. m.1) nodes)) (record { state = stating.graph id v.state; items = v.items })) ≡ (about v || b)
      by_name true same =
          about_stays id (trees_of (each (λ m. m.1) nodes)) (record { state = stating.graph id v.state; items = v.items }) (last_is true same ∙ or_true (about v)) ∙ sym (or_true (about v))
      by_name false apart =
          let u : At Stating Tree = record { state = stating.graph id v.state; items = v.items } in
          let x = walk_all stating id nowhere (trees_of (each (λ m. m.1) nodes)) u in
          sym (ap (λ b. about x || b) apart ∙ or_same (about x)) ∙ pairs_stay id nodes u all ∙ ap (λ b. about u || b) apart ∙ or_same (about u) ∙ last_is false apart

  -- Node objects of the default graph: each states something of it, and of the graph that stands in it.
  module _ (part : List ℕ → Pairs) where
    abbrev has_graph : List ℕ × Tree → Bool
    has_graph m = is_some (member_at graph_key (object_in (Some m.1)))

    top_states : (m : List ℕ × Tree) (w : At Stating Tree) → IsTop part m
        → (about (walk stating default_graph nowhere m.1 w) || bytes_eq h default_graph) ≡ ((about w || bytes_eq h default_graph) || (has_graph m && bytes_eq h m.0))
    top_states m w (alone (a_node ms is item none) empty) =
        subst (λ t. (about (walk stating default_graph nowhere t w) || bytes_eq h default_graph) ≡ ((about w || bytes_eq h default_graph) || (has_graph (m.0, t) && bytes_eq h m.0))) (sym is)
        (item_states default_graph m.0 ms w false item (λ v. no_graph_states default_graph m.0 ms v none) ∙ ap (λ o. (about w || bytes_eq h default_graph) || (is_some o && bytes_eq h m.0)) (sym none))
    top_states m w (with_part ms is item graph apart all) =
        subst (λ t. (about (walk stating default_graph nowhere t w) || bytes_eq h default_graph) ≡ ((about w || bytes_eq h default_graph) || (has_graph (m.0, t) && bytes_eq h m.0))) (sym is)
        (item_states default_graph m.0 ms w (bytes_eq h m.0) item (λ v. graph_states m.0 ms (part m.0) v graph all) ∙ ap (λ o. (about w || bytes_eq h default_graph) || (is_some o && bytes_eq h m.0)) (sym graph))

    pub tops_state : (nodes : Pairs) (w : At Stating Tree) → AllByRecursion (IsTop part) nodes
        → (about (walk_all stating default_graph nowhere (trees_of (each (λ m. m.1) nodes)) w) || bytes_eq h default_graph) ≡ ((about w || bytes_eq h default_graph) || list_any (λ m. is_some (member_at graph_key (object_in (Some m.1))) && bytes_eq h m.0) nodes)
    tops_state [] w all = or_last (about w || bytes_eq h default_graph)
      where
        or_last : (b : Bool) → b ≡ (b || false)
        or_last true = refl
        or_last false = refl
    tops_state (m ∷ nodes) w all =
        tops_state nodes (walk stating default_graph nowhere m.1 w) all.1
        ∙ ap (λ b. b || list_any (λ m. is_some (member_at graph_key (object_in (Some m.1))) && bytes_eq h m.0) nodes) (top_states m w all.0)
        ∙ or_assoc (about w || bytes_eq h default_graph) (is_some (member_at graph_key (object_in (Some m.1))) && bytes_eq h m.0) (list_any (λ m. is_some (member_at graph_key (object_in (Some m.1))) && bytes_eq h m.0) nodes)
      where
        or_assoc : (a b c : Bool) → ((a || b) || c) ≡ (a || (b || c))
        or_assoc true b c = refl
        or_assoc false b c = refl

-- Among keys that ascend, whether one stands with a graph in it.
pub any_at : (h : List ℕ) (nodes : Pairs) → AreAscending nodes → list_any (λ m. is_some (member_at graph_key (object_in (Some m.1))) && bytes_eq h m.0) nodes ≡ is_some (member_at graph_key (object_in (member_at h nodes)))
any_at h [] sorted = refl
any_at h (m ∷ nodes) sorted = by_test (bytes_eq h m.0) refl (any_at h nodes (ascending_tail m nodes sorted))
  where
    and_true : (a b : Bool) → b ≡ false → ((a && true) || b) ≡ a
    and_true true b is = refl
    and_true false b is = is

    and_false : (a b : Bool) → ((a && false) || b) ≡ b
    and_false true b = refl
    and_false false b = refl

    by_test : (b : Bool) → bytes_eq h m.0 ≡ b → list_any (λ m. is_some (member_at graph_key (object_in (Some m.1))) && bytes_eq h m.0) nodes ≡ is_some (member_at graph_key (object_in (member_at h nodes)))
        → ((is_some (member_at graph_key (object_in (Some m.1))) && bytes_eq h m.0) || list_any (λ m. is_some (member_at graph_key (object_in (Some m.1))) && bytes_eq h m.0) nodes) ≡ is_some (member_at graph_key (object_in (member_at h (m ∷ nodes))))
    by_test true same rest =
        let none : member_at h nodes ≡ None = ap (λ x. member_at x nodes) (bytes_eq-exact h m.0 same) ∙ missing m.0 nodes (ascending_head m nodes sorted) in
        let later = list_any (λ m. is_some (member_at graph_key (object_in (Some m.1))) && bytes_eq h m.0) nodes in
        ap (λ b. (is_some (member_at graph_key (object_in (Some m.1))) && b) || later) same
        ∙ and_true (is_some (member_at graph_key (object_in (Some m.1)))) later (rest ∙ ap (λ o. is_some (member_at graph_key (object_in o))) none)
        ∙ ap (λ o. is_some (member_at graph_key (object_in o))) (sym (at_first h m nodes same))
    by_test false apart rest =
        let later = list_any (λ m. is_some (member_at graph_key (object_in (Some m.1))) && bytes_eq h m.0) nodes in
        ap (λ b. (is_some (member_at graph_key (object_in (Some m.1))) && b) || later) apart
        ∙ and_false (is_some (member_at graph_key (object_in (Some m.1)))) later
        ∙ rest
        ∙ ap (λ o. is_some (member_at graph_key (object_in o))) (sym (at_later h m nodes apart))
