-- What the node objects of a flattened document state of a node of a graph.
use Rattle.std.proofs.Common.{◌≡◌, ℕ, List, [], ◌∷◌, ◌++◌, Bool, true, false, ◌&&◌, if◌then◌else◌, Option, Some, None, is_some, refl, sym, ap, ◌∙◌, subst, append_assoc}
use Rattle.std.specs.Prelude.{map as each}
use Rattle.std.proofs.lemmas.List.{append-nil}
use Rattle.std.specs.Str.{bytes_eq}
use Rattle.std.specs.List.{AllByRecursion, flat_map}
use Rattle.ld_model.specs.Tree.{Tree, Members, Pairs, array, object, no_members, member, trees_of, member_list, member_at}
use Rattle.ld_model.specs.Keys.{id_key, value_key, graph_key, default_graph}
use Rattle.ld_model.proofs.Puts.{bytes_eq-exact, bytes_eq-sym, at_first, at_later}
use Rattle.node_model.specs.Keys.{list_key, index_key, reverse_key, included_key}
use Rattle.node_model.specs.Labels.{Labels}
use Rattle.node_model.specs.Walk.{Steps, nowhere, At, has_key, text_at, types_in, value_into, types_into, index_into, names, entered, with_graph, walk, walk_all, walk_at, walk_reverse, walk_reverse_map, walk_properties}
use Rattle.node_laws.specs.Stated.{Said, it_is, a_type, an_index, of_node, Stating, stating}
use Rattle.node_laws.proofs.Restated.{IsOther, named_other, walk_none, walk_found, of_this, is_this, if_this, node_made, graph_made, said_one, Adds, adds_nothing, adds_both, property_said, IsFine, properties_add}

-- A node object without reverse properties and included nodes.
pub record IsItem (id : List ℕ) (ms : Members) : Type 0 where
  pub id_at : text_at id_key ms ≡ Some id
  pub id_other : IsOther id
  pub no_value : has_key value_key ms ≡ false
  pub no_list : has_key list_key ms ≡ false
  pub no_reverse : member_at reverse_key (member_list ms) ≡ None
  pub no_included : member_at included_key (member_list ms) ≡ None
  pub types : AllByRecursion IsOther (types_in ms)
  pub fine : AllByRecursion (λ m. IsFine m.0 m.1) (member_list ms)

abbrev pub index_said : Option (List ℕ) → List Said
index_said (Some i) = an_index i ∷ []
index_said None = []

-- What it says of its node: before its properties, and all.
abbrev pub heads : Members → List Said
heads ms = each a_type (types_in ms) ++ index_said (text_at index_key ms)

abbrev pub node_said : Members → List Said
node_said ms = heads ms ++ flat_map property_said (member_list ms)

walk_reverse_none : {S N E : Type 0} (p : Steps S N E) (g n : N) (ms : Members) (w : At S E) → member_at reverse_key (member_list ms) ≡ None → walk_reverse p g n ms w ≡ w
walk_reverse_none p g n no_members w none = refl
walk_reverse_none p g n (member k t ms) w none = by_test (bytes_eq reverse_key k) refl (walk_reverse_none p g n ms w)
  where
    by_test : (b : Bool) → bytes_eq reverse_key k ≡ b → (member_at reverse_key (member_list ms) ≡ None → walk_reverse p g n ms w ≡ w) → walk_reverse p g n (member k t ms) w ≡ w
    by_test true same rest = absurd (let no_way : Some t ≡ None = sym (at_first reverse_key (k, t) (member_list ms) same) ∙ none in cc)
    by_test false apart rest = ap (λ b. if b then walk_reverse_map p g n t w else walk_reverse p g n ms w) (bytes_eq-sym k reverse_key ∙ apart) ∙ rest (sym (at_later reverse_key (k, t) (member_list ms) apart) ∙ none)

names_same : (ts : List (List ℕ)) (s : Stating) → AllByRecursion IsOther ts → names stating ts s ≡ (ts, s)
names_same [] s others = refl
names_same (t ∷ ts) s others =
    ap (λ (name : List ℕ × Labels). let rest = names stating ts (record { labels = name.1; stated = s.stated }) in (name.0 ∷ rest.0, rest.1)) (named_other t s.labels others.0)
    ∙ ap (λ (rest : List (List ℕ) × Stating). (t ∷ rest.0, rest.1)) (names_same ts s others.1)

-- A node that is entered from nowhere, by its types, its id and its index.
abbrev entered_as : List ℕ → At Stating Tree → List (List ℕ) → Option (List ℕ) → Option (List ℕ) → List ℕ × At Stating Tree
entered_as g w type_texts id_text index_text =
    let types = names stating type_texts w.state in
    let id = stating.node g id_text types.1 in
    (id.0, record { state = index_into stating g id.0 index_text (types_into stating g id.0 types.0 id.1); items = w.items })

abbrev entered_after : List ℕ → At Stating Tree → Option (List ℕ) → Option (List ℕ) → List (List ℕ) × Stating → List ℕ × At Stating Tree
entered_after g w id_text index_text types =
    let id = stating.node g id_text types.1 in
    (id.0, record { state = index_into stating g id.0 index_text (types_into stating g id.0 types.0 id.1); items = w.items })

abbrev pub entered_named : List ℕ → At Stating Tree → List (List ℕ) → Option (List ℕ) → List ℕ × Labels → List ℕ × At Stating Tree
entered_named g w types index_text name =
    (name.0, record { state = index_into stating g name.0 index_text (types_into stating g name.0 types (record { labels = name.1; stated = w.state.stated ++ of_node g name.0 it_is ∷ [] })); items = w.items })

entered_is : (g id : List ℕ) (ms : Members) (w : At Stating Tree) → IsItem id ms → entered stating g nowhere ms w ≡ entered_named g w (types_in ms) (text_at index_key ms) (id, w.state.labels)
entered_is g id ms w is =
    ap (λ o. entered_as g w (types_in ms) o (text_at index_key ms)) is.id_at
    ∙ ap (entered_after g w (Some id) (text_at index_key ms)) (names_same (types_in ms) w.state is.types)
    ∙ ap (entered_named g w (types_in ms) (text_at index_key ms)) (named_other id w.state.labels is.id_other)

-- A node object of a graph, by its id, without a graph in it.
pub data IsNested (m : List ℕ × Tree) : Type 0 where
  a_node : (ms : Members) → m.1 ≡ object ms → IsItem m.0 ms → member_at graph_key (member_list ms) ≡ None → IsNested m

abbrev pub object_said : Tree → List Said
object_said (object ms) = node_said ms
object_said _ = []

-- A node object of the default graph, perhaps with the nodes of another graph in it.
pub data IsTop (part : List ℕ → Pairs) (m : List ℕ × Tree) : Type 0 where
  alone : IsNested m → part m.0 ≡ [] → IsTop part m
  with_part : (ms : Members) → m.1 ≡ object ms → IsItem m.0 ms → member_at graph_key (member_list ms) ≡ Some (array (trees_of (each (λ m. m.1) (part m.0)))) → bytes_eq m.0 default_graph ≡ false → AllByRecursion IsNested (part m.0) → IsTop part m

-- What stands in it.
abbrev pub contents_of : List ℕ → Members → List ℕ × At Stating Tree → At Stating Tree
contents_of g ms node =
    let turned = walk_reverse stating g node.0 ms node.1 in
    let inside = walk_at stating node.0 nowhere graph_key ms (with_graph stating node.0 ms turned) in
    let included = walk_at stating g nowhere included_key ms inside in
    walk_properties stating g node.0 ms included

pub object_is : (g id : List ℕ) (ms : Members) (w : At Stating Tree) → IsItem id ms → walk stating g nowhere (object ms) w ≡ contents_of g ms (entered_named g w (types_in ms) (text_at index_key ms) (id, w.state.labels))
object_is g id ms w is =
    ap (λ b. if b then value_into stating g nowhere (object ms) w else (if has_key list_key ms then w else contents_of g ms (entered stating g nowhere ms w))) is.no_value
    ∙ ap (λ b. if b then w else contents_of g ms (entered stating g nowhere ms w)) is.no_list
    ∙ ap (contents_of g ms) (entered_is g id ms w is)

pub contents_are : (g id : List ℕ) (ms : Members) (v : At Stating Tree) → IsItem id ms
    → contents_of g ms (id, v) ≡ walk_properties stating g id ms (walk_at stating id nowhere graph_key ms (with_graph stating id ms v))
contents_are g id ms v is =
    ap (λ w. walk_properties stating g id ms (walk_at stating g nowhere included_key ms (walk_at stating id nowhere graph_key ms (with_graph stating id ms w)))) (walk_reverse_none stating g id ms v is.no_reverse)
    ∙ ap (walk_properties stating g id ms) (walk_none stating g nowhere included_key ms (walk_at stating id nowhere graph_key ms (with_graph stating id ms v)) is.no_included)

module _ (h k : List ℕ) where
  if_append : (b : Bool) (xs ys : List Said) → if_this h k b xs ++ if_this h k b ys ≡ if_this h k b (xs ++ ys)
  if_append true xs ys = refl
  if_append false xs ys = refl

  if_none : (b : Bool) → if_this h k b [] ≡ []
  if_none true = refl
  if_none false = refl

  types_add : (g id : List ℕ) (ts : List (List ℕ)) (s : Stating) → of_this h k (types_into stating g id ts s).stated ≡ of_this h k s.stated ++ if_this h k (is_this h k g id) (each a_type ts)
  types_add g id [] s = sym (append-nil (of_this h k s.stated)) ∙ ap (λ l. of_this h k s.stated ++ l) (sym (if_none (is_this h k g id)))
  types_add g id (t ∷ ts) s =
      types_add g id ts (stating.type_ g id t s)
      ∙ ap (λ l. l ++ if_this h k (is_this h k g id) (each a_type ts)) (said_one h k g id (a_type t) s.stated refl)
      ∙ append_assoc (of_this h k s.stated) (if_this h k (is_this h k g id) (a_type t ∷ [])) (if_this h k (is_this h k g id) (each a_type ts))
      ∙ ap (λ l. of_this h k s.stated ++ l) (if_append (is_this h k g id) (a_type t ∷ []) (each a_type ts))

  index_adds : (g id : List ℕ) (o : Option (List ℕ)) (s : Stating) → of_this h k (index_into stating g id o s).stated ≡ of_this h k s.stated ++ if_this h k (is_this h k g id) (index_said o)
  index_adds g id (Some i) s = said_one h k g id (an_index i) s.stated refl
  index_adds g id None s = sym (append-nil (of_this h k s.stated)) ∙ ap (λ l. of_this h k s.stated ++ l) (sym (if_none (is_this h k g id)))

  heads_add : (g id : List ℕ) (ms : Members) (w : At Stating Tree) → Adds h k w (entered_named g w (types_in ms) (text_at index_key ms) (id, w.state.labels)).1 (if_this h k (is_this h k g id) (heads ms))
  heads_add g id ms w =
      let made : Stating = record { labels = w.state.labels; stated = w.state.stated ++ of_node g id it_is ∷ [] } in
      let b = is_this h k g id in
      record {
        said =
            index_adds g id (text_at index_key ms) (types_into stating g id (types_in ms) made)
            ∙ ap (λ l. l ++ if_this h k b (index_said (text_at index_key ms))) (types_add g id (types_in ms) made ∙ ap (λ l. l ++ if_this h k b (each a_type (types_in ms))) (node_made h k g id w.state.stated))
            ∙ append_assoc (of_this h k w.state.stated) (if_this h k b (each a_type (types_in ms))) (if_this h k b (index_said (text_at index_key ms)))
            ∙ ap (λ l. of_this h k w.state.stated ++ l) (if_append b (each a_type (types_in ms)) (index_said (text_at index_key ms)));
      }

  item_adds : (g id : List ℕ) (ms : Members) (w : At Stating Tree) (nested : List Said) → IsItem id ms
      → ((v : At Stating Tree) → Adds h k v (walk_at stating id nowhere graph_key ms (with_graph stating id ms v)) nested)
      → Adds h k w (walk stating g nowhere (object ms) w) (if_this h k (is_this h k g id) (heads ms) ++ (nested ++ if_this h k (is_this h k g id) (flat_map property_said (member_list ms))))
  item_adds g id ms w nested is inner =
      let b = is_this h k g id in
      let v = (entered_named g w (types_in ms) (text_at index_key ms) (id, w.state.labels)).1 in
      let u = walk_at stating id nowhere graph_key ms (with_graph stating id ms v) in
      subst (λ z. Adds h k w z (if_this h k b (heads ms) ++ (nested ++ if_this h k b (flat_map property_said (member_list ms))))) (sym (object_is g id ms w is ∙ contents_are g id ms v is))
      (adds_both h k w v (walk_properties stating g id ms u) (if_this h k b (heads ms)) (nested ++ if_this h k b (flat_map property_said (member_list ms))) (heads_add g id ms w)
      (adds_both h k v u (walk_properties stating g id ms u) nested (if_this h k b (flat_map property_said (member_list ms))) (inner v) (properties_add h k g id ms u is.fine)))

  -- No graph in it.
  no_graph : (id : List ℕ) (ms : Members) (v : At Stating Tree) → member_at graph_key (member_list ms) ≡ None → Adds h k v (walk_at stating id nowhere graph_key ms (with_graph stating id ms v)) []
  no_graph id ms v none =
      adds_nothing h k v _ (ap (λ (w : At Stating Tree). of_this h k w.state.stated)
      (walk_none stating id nowhere graph_key ms (with_graph stating id ms v) none ∙ ap (λ o. record { state = if is_some o then stating.graph id v.state else v.state; items = v.items }) none))

  node_adds : (g id : List ℕ) (ms : Members) (w : At Stating Tree) → IsItem id ms → member_at graph_key (member_list ms) ≡ None → Adds h k w (walk stating g nowhere (object ms) w) (if_this h k (is_this h k g id) (node_said ms))
  node_adds g id ms w is none =
      let b = is_this h k g id in
      subst (Adds h k w (walk stating g nowhere (object ms) w)) (if_append b (heads ms) (flat_map property_said (member_list ms))) (item_adds g id ms w [] is (λ v. no_graph id ms v none))

  abbrev pub pair_says : List ℕ → List ℕ × Tree → List Said
  pair_says g m = if_this h k (is_this h k g m.0) (object_said m.1)

  pair_adds : (g : List ℕ) (m : List ℕ × Tree) (w : At Stating Tree) → IsNested m → Adds h k w (walk stating g nowhere m.1 w) (pair_says g m)
  pair_adds g m w (a_node ms is item none) = subst (λ t. Adds h k w (walk stating g nowhere t w) (if_this h k (is_this h k g m.0) (object_said t))) (sym is) (node_adds g m.0 ms w item none)

  pub pairs_add : (g : List ℕ) (nodes : Pairs) (w : At Stating Tree) → AllByRecursion IsNested nodes → Adds h k w (walk_all stating g nowhere (trees_of (each (λ m. m.1) nodes)) w) (flat_map (pair_says g) nodes)
  pairs_add g [] w all = adds_nothing h k w w refl
  pairs_add g (m ∷ nodes) w all = adds_both h k w (walk stating g nowhere m.1 w) _ (pair_says g m) (flat_map (pair_says g) nodes) (pair_adds g m w all.0) (pairs_add g nodes (walk stating g nowhere m.1 w) all.1)

  pub with_graph_adds : (id : List ℕ) (ms : Members) (nodes : Pairs) (v : At Stating Tree) → member_at graph_key (member_list ms) ≡ Some (array (trees_of (each (λ m. m.1) nodes))) → AllByRecursion IsNested nodes
      → Adds h k v (walk_at stating id nowhere graph_key ms (with_graph stating id ms v)) (flat_map (pair_says id) nodes)
  with_graph_adds id ms nodes v is all =
      let u : At Stating Tree = record { state = stating.graph id v.state; items = v.items } in
      let made : with_graph stating id ms v ≡ u = ap (λ o. record { state = if is_some o then stating.graph id v.state else v.state; items = v.items }) is in
      subst (λ z. Adds h k v z (flat_map (pair_says id) nodes)) (sym (walk_found stating id nowhere graph_key ms (array (trees_of (each (λ m. m.1) nodes))) (with_graph stating id ms v) is ∙ ap (walk_all stating id nowhere (trees_of (each (λ m. m.1) nodes))) made))
      (adds_both h k v u (walk_all stating id nowhere (trees_of (each (λ m. m.1) nodes)) u) [] (flat_map (pair_says id) nodes) (adds_nothing h k v u (graph_made h k id v.state.stated)) (pairs_add id nodes u all))

  nothing_says : (g : List ℕ) (nodes : Pairs) → bytes_eq h g ≡ false → flat_map (pair_says g) nodes ≡ []
  nothing_says g [] apart = refl
  nothing_says g (m ∷ nodes) apart = ap (λ b. if_this h k (b && bytes_eq k m.0) (object_said m.1) ++ flat_map (pair_says g) nodes) apart ∙ nothing_says g nodes apart

  -- Node objects of the default graph, some with the nodes of another graph in them.
  module _ (part : List ℕ → Pairs) where
    abbrev pub top_says : List ℕ × Tree → List Said
    top_says m = if bytes_eq h default_graph then if_this h k (bytes_eq k m.0) (object_said m.1) else flat_map (pair_says m.0) (part m.0)

    -- In the default graph and in another one.
    alone_says : (m : List ℕ × Tree) (b : Bool) → part m.0 ≡ [] → if_this h k (b && bytes_eq k m.0) (object_said m.1) ≡ (if b then if_this h k (bytes_eq k m.0) (object_said m.1) else flat_map (pair_says m.0) (part m.0))
    alone_says m true none = refl
    alone_says m false none = sym (ap (flat_map (pair_says m.0)) none)

    both_say : (id : List ℕ) (ms : Members) (b : Bool) → bytes_eq h default_graph ≡ b → bytes_eq id default_graph ≡ false
        → if_this h k (b && bytes_eq k id) (heads ms) ++ (flat_map (pair_says id) (part id) ++ if_this h k (b && bytes_eq k id) (flat_map property_said (member_list ms)))
        ≡ (if b then if_this h k (bytes_eq k id) (node_said ms) else flat_map (pair_says id) (part id))
    both_say id ms true default apart =
        let other : bytes_eq h id ≡ false = ap (λ x. bytes_eq x id) (bytes_eq-exact h default_graph default) ∙ bytes_eq-sym default_graph id ∙ apart in
        ap (λ l. if_this h k (bytes_eq k id) (heads ms) ++ (l ++ if_this h k (bytes_eq k id) (flat_map property_said (member_list ms)))) (nothing_says id (part id) other)
        ∙ if_append (bytes_eq k id) (heads ms) (flat_map property_said (member_list ms))
    both_say id ms false other apart = append-nil (flat_map (pair_says id) (part id))

    top_adds : (m : List ℕ × Tree) (w : At Stating Tree) → IsTop part m → Adds h k w (walk stating default_graph nowhere m.1 w) (top_says m)
    top_adds m w (alone is none) = subst (Adds h k w (walk stating default_graph nowhere m.1 w)) (alone_says m (bytes_eq h default_graph) none) (pair_adds default_graph m w is)
    top_adds m w (with_part ms is item graph apart all) =
        subst (λ t. Adds h k w (walk stating default_graph nowhere t w) (if bytes_eq h default_graph then if_this h k (bytes_eq k m.0) (object_said t) else flat_map (pair_says m.0) (part m.0))) (sym is)
        (subst (Adds h k w (walk stating default_graph nowhere (object ms) w)) (both_say m.0 ms (bytes_eq h default_graph) refl apart)
        (item_adds default_graph m.0 ms w (flat_map (pair_says m.0) (part m.0)) item (λ v. with_graph_adds m.0 ms (part m.0) v graph all)))

    pub tops_add : (nodes : Pairs) (w : At Stating Tree) → AllByRecursion (IsTop part) nodes → Adds h k w (walk_all stating default_graph nowhere (trees_of (each (λ m. m.1) nodes)) w) (flat_map top_says nodes)
    tops_add [] w all = adds_nothing h k w w refl
    tops_add (m ∷ nodes) w all = adds_both h k w (walk stating default_graph nowhere m.1 w) _ (top_says m) (flat_map top_says nodes) (top_adds m w all.0) (tops_add nodes (walk stating default_graph nowhere m.1 w) all.1)
