-- A sum of operations, renamed, is the node map that they make.
use Rattle.std.proofs.Common.{◌≡◌, ◌≤◌, ◌^◌, ℕ, List, [], ◌∷◌, length, Bool, true, false, cond, not, ◌||◌, Option, Some, None, is_some, refl, sym, ap, ap₂, ◌∙◌, subst}
use Rattle.std.specs.Prelude.{filter, option_map}
use Rattle.std.specs.Str.{bytes_eq}
use Rattle.std.specs.List.{list_any, AllByRecursion, IsDistinct}
use Rattle.std.specs.Map.{lookup, keys_of}
use Rattle.std.specs.Option.{option_or}
use Rattle.std.proofs.lemmas.List.Folds.{list_any-append}
use Rattle.std.proofs.lemmas.Map.Keys.{IsDistinct-head, IsDistinct-tail}
use Rattle.std.proofs.lemmas.Map.Views.{any-filter_same}
use Rattle.ld_model.specs.Keys.{default_graph}
use Rattle.ld_model.proofs.Puts.{bytes_eq-exact}
use Rattle.ld_model.proofs.Truths.{both}
use Rattle.node_model.specs.Maps.{at}
use Rattle.node_model.specs.NodeMap.{Graphs, node_or_new, graph_in}
use Rattle.node_model.specs.Generating.{empty}
use Rattle.op_model.specs.Names.{Name, same_name}
use Rattle.op_model.specs.Ops.{Op, use_label, ensure_graph, ensure_node, ensure_property, add_entry, append_list, add_type, set_index}
use Rattle.op_model.specs.Running.{label_in, labelled, apply_all}
use Rattle.op_laws.specs.Own.{HasOwn, OpHasOwn}
use Rattle.op_laws.specs.Sound.{IsSound}
use Rattle.op_laws.specs.Told.{is_of_graph, is_of_node, AreTold}
use Rattle.op_laws.proofs.Told.{told_from_empty, node_maps_are_told}
use Rattle.sum_model.specs.Joins.{is_new, lists_joined, or_empty}
use Rattle.sum_model.specs.Sums.{Place, Placed, Key, same_key, PartEntry, bare, part_entries_joined, Sum, join, sum_of_one, sum}
use Rattle.sum_laws.proofs.Lists.{IsExact}
use Rattle.sum_laws.proofs.Maps.{keys-joined}
use Rattle.sum_laws.proofs.Same.{same_name-exact, same_key-exact}
use Rattle.sum_laws.proofs.Determined.{nothing_stands_twice}
use Rattle.shard_model.specs.Renamed.{node_renamed, sum_put}
use Rattle.shard_model.specs.Own.{NodeHasOwn, SumHasOwn}
use Rattle.shard_laws.specs.Laws.{ops}
use Rattle.shard_laws.proofs.Folds.{or_none, last, some_or, IsLone, none_last}
use Rattle.shard_laws.proofs.Order.{empty_in_order, same_option, same_graphs, all_in_order}
use Rattle.shard_laws.proofs.Put.{is_at, gives_node, node_read, is_in, is_graph, graph_read, put_in_order}
use Rattle.shard_laws.proofs.Owned.{sum_own}
use Rattle.shard_laws.proofs.Step.{node_test, node_of_sum}

pub or_swapped : (a b : Bool) → (a || b) ≡ (b || a)
or_swapped true true = refl
or_swapped true false = refl
or_swapped false true = refl
or_swapped false false = refl

pub or_false : (b : Bool) → (b || false) ≡ b
or_false true = refl
or_false false = refl

pub some_if : {W : Type 0} (b : Bool) (v : W) → is_some (cond b (Some v) None) ≡ b
some_if true v = refl
some_if false v = refl

pub none_from : {W : Type 0} (o : Option W) → is_some o ≡ false → o ≡ None
none_from None is = refl
none_from (Some w) is = absurd (cc)

pub some_last : {X W : Type 0} (gives : X → Option W) (hits : X → Bool) → ((x : X) → is_some (gives x) ≡ hits x) → (xs : List X) → is_some (last gives xs) ≡ list_any hits xs
some_last gives hits is [] = refl
some_last gives hits is (x ∷ xs) = some_or (last gives xs) (gives x) ∙ ap₂ ◌||◌ (some_last gives hits is xs) (is x) ∙ or_swapped (list_any hits xs) (hits x)

-- What passes a test in a joined list passes it in one of the two.
module _ {X : Type 0} (same : X → X → Bool) (exact : IsExact same) (f : X → Bool) where
  any_equal : (a : List X) (y : X) → list_any (same y) a ≡ true → f y ≡ true → list_any f a ≡ true
  any_equal [] y there holds = absurd (cc)
  any_equal (x ∷ a) y there holds = by_test (same y x) refl there (λ rest. any_equal a y rest holds)
    where
      second : (b : Bool) → (b || true) ≡ true
      second true = refl
      second false = refl

      by_test : (b : Bool) → same y x ≡ b → (same y x || list_any (same y) a) ≡ true → (list_any (same y) a ≡ true → list_any f a ≡ true) → (f x || list_any f a) ≡ true
      by_test true is there rest = ap (λ t. t || list_any f a) (ap f (sym (exact y x is)) ∙ holds)
      by_test false is there rest = ap (λ t. f x || t) (rest (sym (ap (λ t. t || list_any (same y) a) is) ∙ there)) ∙ second (f x)

  pub any_joined : (a b : List X) → list_any f (lists_joined same a b) ≡ (list_any f a || list_any f b)
  any_joined a b = list_any-append f a (filter (is_new same a) b) ∙ by_test (list_any f a) refl
    where
      is_new_there : list_any f a ≡ false → (y : X) → f y ≡ true → (t : Bool) → list_any (same y) a ≡ t → not t ≡ true
      is_new_there none y holds true there = absurd (let no_way : true ≡ false = sym (any_equal a y there holds) ∙ none in cc)
      is_new_there none y holds false there = refl

      by_test : (t : Bool) → list_any f a ≡ t → (list_any f a || list_any f (filter (is_new same a) b)) ≡ (list_any f a || list_any f b)
      by_test true is = ap (λ t. t || list_any f (filter (is_new same a) b)) is ∙ sym (ap (λ t. t || list_any f b) is)
      by_test false is = ap (λ t. list_any f a || t) (any-filter_same f (is_new same a) true (λ y holds. ap not refl ∙ is_new_there is y holds (list_any (same y) a) refl) b)

any_keys : {K V : Type 0} (f : K → Bool) (m : List (K × V)) → list_any (λ e. f e.0) m ≡ list_any f (keys_of m)
any_keys f [] = refl
any_keys f (e ∷ m) = ap (λ t. f e.0 || t) (any_keys f m)

any_nodes : (f : Key → Bool) (a b : Sum) → list_any (λ e. f e.0) (join a b).nodes ≡ (list_any (λ e. f e.0) a.nodes || list_any (λ e. f e.0) b.nodes)
any_nodes f a b =
    any_keys f (join a b).nodes
    ∙ ap (list_any f) (keys-joined same_key bare part_entries_joined a.nodes b.nodes)
    ∙ any_joined same_key same_key-exact f (keys_of a.nodes) (keys_of b.nodes)
    ∙ sym (ap₂ ◌||◌ (any_keys f a.nodes) (any_keys f b.nodes))

module _ (names : List Name) where
  one_graph : (g : List ℕ) (place : Place) (o : Op) → (list_any (is_in names g) (sum_of_one place o).nodes || list_any (is_graph names g) (sum_of_one place o).graphs) ≡ is_of_graph names g o
  one_graph g place (use_label n) = refl
  one_graph g place (ensure_graph h) = or_false (bytes_eq g (label_in names h))
  one_graph g place (ensure_node h n) = or_false (bytes_eq g (label_in names h) || false) ∙ or_false (bytes_eq g (label_in names h))
  one_graph g place (ensure_property h n p) = or_false (bytes_eq g (label_in names h) || false) ∙ or_false (bytes_eq g (label_in names h))
  one_graph g place (add_entry h n p e) = or_false (bytes_eq g (label_in names h) || false) ∙ or_false (bytes_eq g (label_in names h))
  one_graph g place (append_list h n p es) = or_false (bytes_eq g (label_in names h) || false) ∙ or_false (bytes_eq g (label_in names h))
  one_graph g place (add_type h n t) = or_false (bytes_eq g (label_in names h) || false) ∙ or_false (bytes_eq g (label_in names h))
  one_graph g place (set_index h n i) = or_false (bytes_eq g (label_in names h) || false) ∙ or_false (bytes_eq g (label_in names h))

  exchanged : (a b c d : Bool) → ((a || b) || (c || d)) ≡ ((a || c) || (b || d))
  exchanged true b c d = refl
  exchanged false b true true = or_swapped b true
  exchanged false true true false = refl
  exchanged false false true false = refl
  exchanged false b false d = refl

  pub graphs_of_sum : (g : List ℕ) (os : List Placed) → (list_any (is_in names g) (sum os).nodes || list_any (is_graph names g) (sum os).graphs) ≡ list_any (is_of_graph names g) (ops os)
  graphs_of_sum g [] = refl
  graphs_of_sum g (o ∷ os) =
      let one = sum_of_one o.0 o.1 in
      ap₂ ◌||◌ (any_nodes (λ k. bytes_eq g (label_in names k.0)) one (sum os)) (any_joined same_name same_name-exact (is_graph names g) one.graphs (sum os).graphs)
      ∙ exchanged (list_any (is_in names g) one.nodes) (list_any (is_in names g) (sum os).nodes) (list_any (is_graph names g) one.graphs) (list_any (is_graph names g) (sum os).graphs)
      ∙ ap₂ ◌||◌ (one_graph g o.0 o.1) (graphs_of_sum g os)

  one_node : (g id : List ℕ) (place : Place) (o : Op) → list_any (λ e. is_at names g id e.0) (sum_of_one place o).nodes ≡ is_of_node names g id o
  one_node g id place (use_label n) = refl
  one_node g id place (ensure_graph h) = refl
  one_node g id place (ensure_node h n) = or_false (is_at names g id (h, n))
  one_node g id place (ensure_property h n p) = or_false (is_at names g id (h, n))
  one_node g id place (add_entry h n p e) = or_false (is_at names g id (h, n))
  one_node g id place (append_list h n p es) = or_false (is_at names g id (h, n))
  one_node g id place (add_type h n t) = or_false (is_at names g id (h, n))
  one_node g id place (set_index h n i) = or_false (is_at names g id (h, n))

  pub nodes_of_sum : (g id : List ℕ) (os : List Placed) → list_any (λ e. is_at names g id e.0) (sum os).nodes ≡ list_any (is_of_node names g id) (ops os)
  nodes_of_sum g id [] = refl
  nodes_of_sum g id (o ∷ os) =
      any_nodes (is_at names g id) (sum_of_one o.0 o.1) (sum os)
      ∙ ap₂ ◌||◌ (one_node g id o.0 o.1) (nodes_of_sum g id os)

-- In the empty node map.
pub is_default : (g : List ℕ) → is_some (at g empty.graphs) ≡ bytes_eq g default_graph
is_default g = (node_maps_are_told []).graph g

pub nothing_in : (g id : List ℕ) → at id (graph_in g empty.graphs) ≡ None
nothing_in g id = none_from (at id (graph_in g empty.graphs)) ((node_maps_are_told []).node g id)

module _ (names : List Name) (few : length names ≤ 2 ^ 64) where
  -- At most one node of a sum has these labels.
  others_apart : (g id : List ℕ) (k : Key) → HasOwn names k.0 → HasOwn names k.1 → g ≡ label_in names k.0 → id ≡ label_in names k.1
      → (es : List (Key × PartEntry)) → AllByRecursion (NodeHasOwn names) es → AllByRecursion (λ y. same_key k y ≡ false) (keys_of es) → AllByRecursion (λ e. gives_node names g id e ≡ None) es
  others_apart g id k graph node at_graph at_node [] all differ = tt
  others_apart g id k graph node at_graph at_node (e ∷ es) all differ =
      let apart : is_at names g id e.0 ≡ false = (λ i. is_at names (at_graph i) (at_node i) e.0) ∙ node_test names few k graph node e.0.0 e.0.1 all.0.graph all.0.node ∙ differ.0 in
      (ap (λ b. cond b (Some (node_renamed names e.1)) None) apart, others_apart g id k graph node at_graph at_node es all.1 differ.1)

  pub nodes_lone : (g id : List ℕ) (es : List (Key × PartEntry)) → AllByRecursion (NodeHasOwn names) es → IsDistinct same_key (keys_of es) → IsLone (gives_node names g id) es
  nodes_lone g id [] all distinct = tt
  nodes_lone g id (e ∷ es) all distinct = (
    (λ some.
        let hit = both (bytes_eq g (label_in names e.0.0)) (bytes_eq id (label_in names e.0.1)) (sym (some_if (is_at names g id e.0) (node_renamed names e.1)) ∙ some) in
        others_apart g id e.0 all.0.graph all.0.node (bytes_eq-exact g (label_in names e.0.0) hit.0) (bytes_eq-exact id (label_in names e.0.1) hit.1) es all.1 (IsDistinct-head same_key e.0 (keys_of es) distinct)),
    nodes_lone g id es all.1 (IsDistinct-tail same_key e.0 (keys_of es) distinct),
  )

  -- What stands at the labels of a node is what the sum has of it.
  at_own_labels : (k : Key) → HasOwn names k.0 → HasOwn names k.1 → (es : List (Key × PartEntry)) → AllByRecursion (NodeHasOwn names) es → IsDistinct same_key (keys_of es)
      → last (gives_node names (label_in names k.0) (label_in names k.1)) es ≡ option_map (node_renamed names) (lookup (same_key k) es)
  at_own_labels k graph node [] all distinct = refl
  at_own_labels k graph node (e ∷ es) all distinct = by_test (same_key k e.0) refl (at_own_labels k graph node es all.1 (IsDistinct-tail same_key e.0 (keys_of es) distinct))
    where
      here : gives_node names (label_in names k.0) (label_in names k.1) e ≡ cond (same_key k e.0) (Some (node_renamed names e.1)) None
      here = ap (λ b. cond b (Some (node_renamed names e.1)) None) (node_test names few k graph node e.0.0 e.0.1 all.0.graph all.0.node)

      by_test : (t : Bool) → same_key k e.0 ≡ t → last (gives_node names (label_in names k.0) (label_in names k.1)) es ≡ option_map (node_renamed names) (lookup (same_key k) es) → option_or (last (gives_node names (label_in names k.0) (label_in names k.1)) es) (gives_node names (label_in names k.0) (label_in names k.1) e) ≡ option_map (node_renamed names) (cond (same_key k e.0) (Some e.1) (lookup (same_key k) es))
      by_test true same rest =
          let differ = subst (λ x. AllByRecursion (λ y. same_key x y ≡ false) (keys_of es)) (sym (same_key-exact k e.0 same)) (IsDistinct-head same_key e.0 (keys_of es) distinct) in
          ap₂ option_or (none_last (gives_node names (label_in names k.0) (label_in names k.1)) es (others_apart (label_in names k.0) (label_in names k.1) k graph node refl refl es all.1 differ)) (here ∙ ap (λ t. cond t (Some (node_renamed names e.1)) None) same)
          ∙ ap (λ t. option_map (node_renamed names) (cond t (Some e.1) (lookup (same_key k) es))) (sym same)
      by_test false apart rest =
          ap₂ option_or rest (here ∙ ap (λ t. cond t (Some (node_renamed names e.1)) None) apart)
          ∙ or_none (option_map (node_renamed names) (lookup (same_key k) es))
          ∙ ap (λ t. option_map (node_renamed names) (cond t (Some e.1) (lookup (same_key k) es))) (sym apart)

  -- A node that is there has names whose labels these are.
  record Named (g id : List ℕ) : Type 0 where
    key : Key
    graph : HasOwn names key.0
    node : HasOwn names key.1
    at_graph : g ≡ label_in names key.0
    at_node : id ≡ label_in names key.1

  named : (g id : List ℕ) (es : List (Key × PartEntry)) → AllByRecursion (NodeHasOwn names) es → list_any (λ e. is_at names g id e.0) es ≡ true → Named g id
  named g id [] all there = absurd (cc)
  named g id (e ∷ es) all there = by_test (is_at names g id e.0) refl (λ rest. named g id es all.1 rest)
    where
      by_test : (b : Bool) → is_at names g id e.0 ≡ b → (list_any (λ e. is_at names g id e.0) es ≡ true → Named g id) → Named g id
      by_test true is rest =
          let hit = both (bytes_eq g (label_in names e.0.0)) (bytes_eq id (label_in names e.0.1)) is in
          record { key = e.0; graph = all.0.graph; node = all.0.node; at_graph = bytes_eq-exact g (label_in names e.0.0) hit.0; at_node = bytes_eq-exact id (label_in names e.0.1) hit.1 }
      by_test false is rest = rest (sym (ap (λ t. t || list_any (λ e. is_at names g id e.0) es) is) ∙ there)

  module _ (os : List Placed) (sound : AllByRecursion IsSound (ops os)) (own : AllByRecursion (OpHasOwn names) (ops os)) where
    abbrev whole : Graphs
    whole = sum_put names (sum os) empty.graphs

    abbrev made : Graphs
    made = (apply_all names (ops os) (labelled names empty)).graphs

    told : AreTold names (ops os) made
    told = told_from_empty names (ops os) (labelled names empty) refl

    has : SumHasOwn names (sum os)
    has = sum_own names os sound own

    turned : (a b c : Bool) → (a || (b || c)) ≡ ((a || b) || c)
    turned true b c = refl
    turned false b c = refl

    same_there : (g : List ℕ) → is_some (at g whole) ≡ is_some (at g made)
    same_there g =
        graph_read names g (sum os) empty.graphs
        ∙ turned (list_any (is_in names g) (sum os).nodes) (list_any (is_graph names g) (sum os).graphs) (is_some (at g empty.graphs))
        ∙ ap₂ ◌||◌ (graphs_of_sum names g os) (is_default g)
        ∙ sym (told.graph g)

    in_whole : (g id : List ℕ) → at id (graph_in g whole) ≡ last (gives_node names g id) (sum os).nodes
    in_whole g id =
        node_read names g id (sum os) empty.graphs
        ∙ ap (option_or (last (gives_node names g id) (sum os).nodes)) (nothing_in g id)
        ∙ or_none (last (gives_node names g id) (sum os).nodes)

    some_in_whole : (g id : List ℕ) → is_some (at id (graph_in g whole)) ≡ list_any (λ e. is_at names g id e.0) (sum os).nodes
    some_in_whole g id =
        ap is_some (in_whole g id)
        ∙ some_last (gives_node names g id) (λ e. is_at names g id e.0) (λ e. some_if (is_at names g id e.0) (node_renamed names e.1)) (sum os).nodes

    some_made : (g id : List ℕ) → is_some (at id (graph_in g made)) ≡ list_any (λ e. is_at names g id e.0) (sum os).nodes
    some_made g id = told.node g id ∙ sym (nodes_of_sum names g id os)

    same_node : (k : Key) → HasOwn names k.0 → HasOwn names k.1 → at (label_in names k.1) (graph_in (label_in names k.0) whole) ≡ at (label_in names k.1) (graph_in (label_in names k.0) made)
    same_node k graph node =
        let g = label_in names k.0 in
        let id = label_in names k.1 in
        same_option node_or_new (λ a b is. is) (at id (graph_in g whole)) (at id (graph_in g made))
        (some_in_whole g id ∙ sym (some_made g id))
        (ap node_or_new (in_whole g id ∙ at_own_labels k graph node (sum os).nodes has.nodes (nothing_stands_twice os).nodes)
        ∙ or_bare (lookup (same_key k) (sum os).nodes)
        ∙ sym (told.content g id ∙ node_of_sum names few k graph node os sound own))
      where
        or_bare : (o : Option PartEntry) → node_or_new (option_map (node_renamed names) o) ≡ node_renamed names (or_empty bare o)
        or_bare (Some e) = refl
        or_bare None = refl

    same_nodes : (g id : List ℕ) → at id (graph_in g whole) ≡ at id (graph_in g made)
    same_nodes g id = by_test (list_any (λ e. is_at names g id e.0) (sum os).nodes) refl
      where
        by_test : (b : Bool) → list_any (λ e. is_at names g id e.0) (sum os).nodes ≡ b → at id (graph_in g whole) ≡ at id (graph_in g made)
        by_test false none = none_from (at id (graph_in g whole)) (some_in_whole g id ∙ none) ∙ sym (none_from (at id (graph_in g made)) (some_made g id ∙ none))
        by_test true there =
            let n = named g id (sum os).nodes has.nodes there in
            (λ i. at (n.at_node i) (graph_in (n.at_graph i) whole))
            ∙ same_node n.key n.graph n.node
            ∙ (λ i. at (sym n.at_node i) (graph_in (sym n.at_graph i) made))

    pub whole_is_made : sum_put names (sum os) empty.graphs ≡ (apply_all names (ops os) (labelled names empty)).graphs
    whole_is_made =
        same_graphs whole made (put_in_order names (sum os) empty.graphs empty_in_order) (all_in_order names (ops os) (labelled names empty) empty_in_order)
        same_there same_nodes
