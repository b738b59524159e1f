-- Parts of a sum, renamed and put together, are the whole.
use Rattle.std.proofs.Common.{◌≡◌, ◌==◌, ◌≤◌, ◌<◌, ◌+◌, ◌^◌, ℕ, zero, suc, List, [], ◌∷◌, length, Bool, true, false, cond, ◌||◌, Some, None, is_some, refl, sym, ap, ap₂, ◌∙◌, eqb-true, lt-ltb, ltb-true, arith}
use Rattle.std.specs.Prelude.{filter, nat_lt, if◌then◌else◌, map as each, ⊤}
use Rattle.std.specs.Str.{bytes_eq}
use Rattle.std.specs.List.{fold, list_any, range_with_len, AllByRecursion}
use Rattle.std.specs.Option.{option_or}
use Rattle.std.proofs.lemmas.Bool.{false_from_ne_true}
use Rattle.std.proofs.lemmas.Bool.Decides.{Decides-eqb}
use Rattle.ld_model.proofs.Puts.{bytes_eq-exact}
use Rattle.node_model.specs.Maps.{at, with_at}
use Rattle.node_model.specs.NodeMap.{Graph, Graphs, graph_or_new, graph_in, on_graph}
use Rattle.node_model.specs.Generating.{empty}
use Rattle.node_laws.proofs.Maps.{Ascend, at_first, at_later, ascend_head, ascend_tail, ascend-with_at, none_before}
use Rattle.op_model.specs.Names.{Name}
use Rattle.op_laws.specs.Sound.{IsSound}
use Rattle.op_laws.proofs.Owned.{sound_names_have_own_labels}
use Rattle.op_laws.proofs.Read.{at_after, graph_after, graph_there}
use Rattle.sum_model.specs.Sums.{Placed, Sum, sum}
use Rattle.sum_model.specs.Shards.{shard_of, in_shard, ops_in, part_in}
use Rattle.sum_laws.proofs.Lists.{filter_all}
use Rattle.sum_laws.proofs.Parts.{the_sum_of_a_shard_is_its_part}
use Rattle.sum_laws.proofs.Uses.{each_name_has_a_shard}
use Rattle.sum_laws.proofs.Determined.{nothing_stands_twice}
use Rattle.shard_model.specs.Renamed.{sum_put, renamed, Shard, shard_renamed}
use Rattle.shard_model.specs.Joined.{nodes_added, graphs_added, graphs_joined, has_node, HaveNoNodeTwice}
use Rattle.shard_model.specs.Own.{SumHasOwn}
use Rattle.shard_laws.specs.Laws.{ops, labels_by, shards_of, NoNodeIsThereTwice}
use Rattle.shard_laws.proofs.Folds.{or_none, last, read_last, read_any, kept, all_of, IsLone, last_of_halves, any_of_halves, last_elsewhere}
use Rattle.shard_laws.proofs.Order.{IsInOrder, nothing_in_order, empty_in_order, on_graph_in_order, same_graphs}
use Rattle.shard_laws.proofs.Put.{one_or, gives_node, node_read, is_in, is_graph, graph_read, put_in_order}
use Rattle.shard_laws.proofs.Owned.{sum_own}
use Rattle.shard_laws.proofs.Whole.{nothing_in, nodes_lone}

-- What is read of graphs to which others were added.
module _ (id : List ℕ) where
  pub last_is_there : (m : Graph) → Ascend m → last (λ n. cond (bytes_eq id n.0) (Some n.1) None) m ≡ at id m
  last_is_there [] ascend = refl
  last_is_there (e ∷ m) ascend = by_test (bytes_eq id e.0) refl (last_is_there m (ascend_tail e m ascend))
    where
      by_test : (b : Bool) → bytes_eq id e.0 ≡ b → last (λ n. cond (bytes_eq id n.0) (Some n.1) None) m ≡ at id m → option_or (last (λ n. cond (bytes_eq id n.0) (Some n.1) None) m) (cond (bytes_eq id e.0) (Some e.1) None) ≡ at id (e ∷ m)
      by_test true is rest =
          ap₂ option_or (rest ∙ ap (λ x. at x m) (bytes_eq-exact id e.0 is) ∙ none_before e.0 m (ascend_head e m ascend)) (ap (λ b. cond b (Some e.1) None) is)
          ∙ sym (at_first id e m is)
      by_test false is rest =
          ap (λ b. option_or (last (λ n. cond (bytes_eq id n.0) (Some n.1) None) m) (cond b (Some e.1) None)) is
          ∙ or_none (last (λ n. cond (bytes_eq id n.0) (Some n.1) None) m)
          ∙ rest
          ∙ sym (at_later id e m is)

  pub nodes_read : (more nodes : Graph) → Ascend more → at id (nodes_added more nodes) ≡ option_or (at id more) (at id nodes)
  nodes_read more nodes ascend =
      read_last (λ nodes n. with_at n.0 n.1 nodes) (at id) (λ n. cond (bytes_eq id n.0) (Some n.1) None) (λ n. ⊤)
      (λ nodes n is. at_after id n.0 n.1 nodes ∙ one_or (bytes_eq id n.0) n.1 (at id nodes))
      more nodes (all_of (λ n. ⊤) (λ n. tt) more)
      ∙ ap (λ o. option_or o (at id nodes)) (last_is_there more ascend)

module _ (g id : List ℕ) where
  last_is_in : (m : Graphs) → Ascend m → last (λ h. cond (bytes_eq g h.0) (at id h.1) None) m ≡ at id (graph_in g m)
  last_is_in [] ascend = refl
  last_is_in (e ∷ m) ascend = by_test (bytes_eq g e.0) refl (last_is_in m (ascend_tail e m ascend))
    where
      by_test : (b : Bool) → bytes_eq g e.0 ≡ b → last (λ h. cond (bytes_eq g h.0) (at id h.1) None) m ≡ at id (graph_in g m)
          → option_or (last (λ h. cond (bytes_eq g h.0) (at id h.1) None) m) (cond (bytes_eq g e.0) (at id e.1) None) ≡ at id (graph_in g (e ∷ m))
      by_test true is rest =
          ap₂ option_or (rest ∙ ap (λ o. at id (graph_or_new o)) (ap (λ x. at x m) (bytes_eq-exact g e.0 is) ∙ none_before e.0 m (ascend_head e m ascend))) (ap (λ b. cond b (at id e.1) None) is)
          ∙ ap (λ o. at id (graph_or_new o)) (sym (at_first g e m is))
      by_test false is rest =
          ap (λ b. option_or (last (λ h. cond (bytes_eq g h.0) (at id h.1) None) m) (cond b (at id e.1) None)) is
          ∙ or_none (last (λ h. cond (bytes_eq g h.0) (at id h.1) None) m)
          ∙ rest
          ∙ ap (λ o. at id (graph_or_new o)) (sym (at_later g e m is))

  pub node_of_both : (more graphs : Graphs) → IsInOrder more → at id (graph_in g (graphs_added more graphs)) ≡ option_or (at id (graph_in g more)) (at id (graph_in g graphs))
  node_of_both more graphs order =
      read_last (λ graphs h. on_graph h.0 (nodes_added h.1) graphs) (λ graphs. at id (graph_in g graphs)) (λ h. cond (bytes_eq g h.0) (at id h.1) None) (λ h. Ascend h.1)
      (λ graphs h ascend. ap (at id) (graph_after g h.0 (nodes_added h.1) graphs) ∙ by_test (bytes_eq g h.0) h.1 ascend (graph_in g graphs))
      more graphs order.each
      ∙ ap (λ o. option_or o (at id (graph_in g graphs))) (last_is_in more order.ascend)
    where
      by_test : (b : Bool) (added : Graph) → Ascend added → (nodes : Graph) → at id (if b then nodes_added added nodes else nodes) ≡ option_or (cond b (at id added) None) (at id nodes)
      by_test true added ascend nodes = nodes_read id added nodes ascend
      by_test false added ascend nodes = refl

module _ (g : List ℕ) where
  is_among : (m : Graphs) → list_any (λ h. bytes_eq g h.0) m ≡ is_some (at g m)
  is_among [] = refl
  is_among (e ∷ m) = by_test (bytes_eq g e.0) refl (is_among m)
    where
      by_test : (b : Bool) → bytes_eq g e.0 ≡ b → list_any (λ h. bytes_eq g h.0) m ≡ is_some (at g m) → (bytes_eq g e.0 || list_any (λ h. bytes_eq g h.0) m) ≡ is_some (at g (e ∷ m))
      by_test true is rest = ap (λ b. b || list_any (λ h. bytes_eq g h.0) m) is ∙ ap is_some (sym (at_first g e m is))
      by_test false is rest = ap (λ b. b || list_any (λ h. bytes_eq g h.0) m) is ∙ rest ∙ ap is_some (sym (at_later g e m is))

  pub graph_of_both : (more graphs : Graphs) → is_some (at g (graphs_added more graphs)) ≡ (is_some (at g more) || is_some (at g graphs))
  graph_of_both more graphs =
      read_any (λ graphs h. on_graph h.0 (nodes_added h.1) graphs) (λ graphs. is_some (at g graphs)) (λ h. bytes_eq g h.0)
      (λ graphs h. graph_there g h.0 (nodes_added h.1) graphs) more graphs
      ∙ ap (λ b. b || is_some (at g graphs)) (is_among more)

pub both_in_order : (more graphs : Graphs) → IsInOrder graphs → IsInOrder (graphs_added more graphs)
both_in_order more graphs order =
    kept (λ graphs h. on_graph h.0 (nodes_added h.1) graphs) IsInOrder (λ h. ⊤)
    (λ graphs h is all. on_graph_in_order h.0 (nodes_added h.1) graphs (λ nodes ascend. kept (λ nodes n. with_at n.0 n.1 nodes) Ascend (λ n. ⊤) (λ nodes n sorted one. ascend-with_at n.0 n.1 nodes sorted) h.1 nodes ascend (all_of (λ n. ⊤) (λ n. tt) h.1)) is)
    more graphs order (all_of (λ h. ⊤) (λ h. tt) more)

shuffled : (a b c d e : Bool) → ((a || (b || false)) || (c || (d || e))) ≡ ((a || c) || ((b || d) || e))
shuffled true b c d e = refl
shuffled false true true d e = refl
shuffled false true false d e = refl
shuffled false false c d e = refl

module _ (names : List Name) (few : length names ≤ 2 ^ 64) (s : Sum) (lone : (g id : List ℕ) → IsLone (gives_node names g id) s.nodes) where
  -- What a part of the sum comes to, beside the default graph.
  abbrev part : (Name → Bool) → Graphs
  part here = sum_put names (part_in here s) empty.graphs

  module _ (p q r : Name → Bool) (is : (n : Name) → r n ≡ (p n || q n)) where
    node_of_halves : (g id : List ℕ) → at id (graph_in g (graphs_added (renamed names (part_in p s)) (part q))) ≡ at id (graph_in g (part r))
    node_of_halves g id =
        let gives = gives_node names g id in
        let first = last gives (filter (λ e. p e.0.1) s.nodes) in
        node_of_both g id (renamed names (part_in p s)) (part q) (put_in_order names (part_in p s) [] nothing_in_order)
        ∙ ap₂ option_or (node_read names g id (part_in p s) [] ∙ or_none first) (node_read names g id (part_in q s) empty.graphs ∙ ap (option_or (last gives (filter (λ e. q e.0.1) s.nodes))) (nothing_in g id) ∙ or_none (last gives (filter (λ e. q e.0.1) s.nodes)))
        ∙ sym (last_of_halves gives (λ e. p e.0.1) (λ e. q e.0.1) (λ e. r e.0.1) (λ e. is e.0.1) s.nodes (lone g id))
        ∙ sym (node_read names g id (part_in r s) empty.graphs ∙ ap (option_or (last gives (filter (λ e. r e.0.1) s.nodes))) (nothing_in g id) ∙ or_none (last gives (filter (λ e. r e.0.1) s.nodes)))

    graph_of_halves : (g : List ℕ) → is_some (at g (graphs_added (renamed names (part_in p s)) (part q))) ≡ is_some (at g (part r))
    graph_of_halves g =
        graph_of_both g (renamed names (part_in p s)) (part q)
        ∙ ap₂ ◌||◌ (graph_read names g (part_in p s) []) (graph_read names g (part_in q s) empty.graphs)
        ∙ shuffled (list_any (is_in names g) (filter (λ e. p e.0.1) s.nodes)) (list_any (is_graph names g) (filter p s.graphs)) (list_any (is_in names g) (filter (λ e. q e.0.1) s.nodes)) (list_any (is_graph names g) (filter q s.graphs)) (is_some (at g empty.graphs))
        ∙ sym (graph_read names g (part_in r s) empty.graphs
        ∙ ap₂ (λ a b. a || (b || is_some (at g empty.graphs)))
        (any_of_halves (is_in names g) (λ e. p e.0.1) (λ e. q e.0.1) (λ e. r e.0.1) (λ e. is e.0.1) s.nodes)
        (any_of_halves (is_graph names g) p q r is s.graphs))

    pub halves_are_whole : graphs_added (renamed names (part_in p s)) (part q) ≡ part r
    halves_are_whole =
        same_graphs (graphs_added (renamed names (part_in p s)) (part q)) (part r)
        (both_in_order (renamed names (part_in p s)) (part q) (put_in_order names (part_in q s) empty.graphs empty_in_order))
        (put_in_order names (part_in r s) empty.graphs empty_in_order)
        graph_of_halves node_of_halves

-- Shards before one number, and with that number's.
next_number : (x k : ℕ) → nat_lt x (k + 1) ≡ ((x == k) || nat_lt x k)
next_number x k = by_tests (x == k) (nat_lt x k) (nat_lt x (k + 1)) refl refl refl
  where
    by_tests : (s t u : Bool) → (x == k) ≡ s → nat_lt x k ≡ t → nat_lt x (k + 1) ≡ u → u ≡ (s || t)
    by_tests true t true equal less next = refl
    by_tests true t false equal less next = absurd (let same : x ≡ k = eqb-true x k equal in let below : nat_lt x (k + 1) ≡ true = lt-ltb x (k + 1) (omega arith) in let no_way : true ≡ false = sym below ∙ next in cc)
    by_tests false true true equal less next = refl
    by_tests false true false equal less next = absurd (let before : x < k = ltb-true x k less in let below : nat_lt x (k + 1) ≡ true = lt-ltb x (k + 1) (omega arith) in let no_way : true ≡ false = sym below ∙ next in cc)
    by_tests false false false equal less next = refl
    by_tests false false true equal less next =
        absurd (let below : x < k + 1 = ltb-true x (k + 1) next in
        let not_before : x < k → ⊥ = λ before. absurd (let yes : nat_lt x k ≡ true = lt-ltb x k before in let no_way : true ≡ false = sym yes ∙ less in cc) in
        let not_same : x ≡ k → ⊥ = λ same. absurd (let yes : (x == k) ≡ true = (Decides-eqb x k).1 same in let no_way : true ≡ false = sym yes ∙ equal in cc) in
        omega (arith, not_before, not_same))

none_below : (x : ℕ) → nat_lt x 0 ≡ false
none_below x = false_from_ne_true (nat_lt x 0) (λ less. let below : x < 0 = ltb-true x 0 less in omega arith)

filter_none : {X : Type 0} (xs : List X) → filter (λ x. false) xs ≡ []
filter_none [] = refl
filter_none (x ∷ xs) = filter_none xs

module _ (shards : ℕ) (os : List Placed) (sound : AllByRecursion IsSound (ops os)) (few : length (labels_by (ops os)) ≤ 2 ^ 64) where
  abbrev names : List Name
  names = labels_by (ops os)

  abbrev one : ℕ → Shard
  one k = shard_renamed names (sum (ops_in (in_shard shards k) os))

  has : SumHasOwn names (sum os)
  has = sum_own names os sound (sound_names_have_own_labels (ops os) sound)

  all_lone : (g id : List ℕ) → IsLone (gives_node names g id) (sum os).nodes
  all_lone g id = nodes_lone names few g id (sum os).nodes has.nodes (nothing_stands_twice os).nodes

  -- The part of the shards before a number.
  abbrev before : ℕ → Graphs
  before k = sum_put names (part_in (λ n. nat_lt (shard_of shards n) k) (sum os)) empty.graphs

  one_more : (k : ℕ) → graphs_added (one k).graphs (before k) ≡ before (k + 1)
  one_more k =
      ap (λ s. graphs_added (renamed names s) (before k)) (the_sum_of_a_shard_is_its_part (in_shard shards k) os)
      ∙ halves_are_whole names few (sum os) all_lone (in_shard shards k) (λ n. nat_lt (shard_of shards n) k) (λ n. nat_lt (shard_of shards n) (k + 1)) (λ n. next_number (shard_of shards n) k)

  joined_from : (k m : ℕ) → fold (λ graphs s. graphs_added s.graphs graphs) (before k) (each one (range_with_len k m)) ≡ before (k + m)
  joined_from k zero = let same : k ≡ k + 0 = omega arith in ap before same
  joined_from k (suc m) =
      let same : (k + 1) + m ≡ k + suc m = omega arith in
      ap (λ graphs. fold (λ graphs s. graphs_added s.graphs graphs) graphs (each one (range_with_len (k + 1) m))) (one_more k)
      ∙ joined_from (k + 1) m
      ∙ ap before same

  none_yet : empty.graphs ≡ before 0
  none_yet =
      (λ i. sum_put names (record { graphs = sym (filter_none (sum os).graphs) i; nodes = sym (filter_none (sum os).nodes) i }) empty.graphs)
      ∙ ap (λ (here : Name → Bool). sum_put names (part_in here (sum os)) empty.graphs) (λ i n. sym (none_below (shard_of shards n)) i)

  all_there : 0 < shards → before shards ≡ sum_put names (sum os) empty.graphs
  all_there some =
      ap (λ (here : Name → Bool). sum_put names (part_in here (sum os)) empty.graphs) (λ i n. lt-ltb (shard_of shards n) shards (each_name_has_a_shard shards some n) i)
      ∙ (λ i. sum_put names (record { graphs = filter_all (sum os).graphs i; nodes = filter_all (sum os).nodes i }) empty.graphs)

  pub shards_are_whole : 0 < shards → graphs_joined (shards_of (labels_by (ops os)) shards os) ≡ sum_put (labels_by (ops os)) (sum os) empty.graphs
  shards_are_whole some =
      let same : 0 + shards ≡ shards = omega arith in
      ap (λ graphs. fold (λ graphs s. graphs_added s.graphs graphs) graphs (each one (range_with_len 0 shards))) none_yet
      ∙ joined_from 0 shards
      ∙ ap before same
      ∙ all_there some

  -- What is there in one shard isn't there in another.
  one_read : (k : ℕ) (g id : List ℕ) → at id (graph_in g (one k).graphs) ≡ last (gives_node names g id) (filter (λ e. in_shard shards k e.0.1) (sum os).nodes)
  one_read k g id =
      ap (λ s. at id (graph_in g (renamed names s))) (the_sum_of_a_shard_is_its_part (in_shard shards k) os)
      ∙ node_read names g id (part_in (in_shard shards k) (sum os)) []
      ∙ or_none (last (gives_node names g id) (filter (λ e. in_shard shards k e.0.1) (sum os).nodes))

  other_number : (x j k : ℕ) → j < k → (x == j) ≡ true → (x == k) ≡ false
  other_number x j k less is = false_from_ne_true (x == k) (λ same. let first : x ≡ j = eqb-true x j is in let second : x ≡ k = eqb-true x k same in omega arith)

  not_in_both : (j k : ℕ) → j < k → (g id : List ℕ) → has_node g id (one j).graphs ≡ true → has_node g id (one k).graphs ≡ false
  not_in_both j k less g id is =
      ap is_some (one_read k g id
      ∙ last_elsewhere (gives_node names g id) (λ e. in_shard shards j e.0.1) (λ e. in_shard shards k e.0.1) (λ e. other_number (shard_of shards e.0.1) j k less) (sum os).nodes (all_lone g id) (sym (ap is_some (one_read j g id)) ∙ is))

  not_in_later : (j k m : ℕ) → j < k → AllByRecursion (λ (t : Shard). (g id : List ℕ) → has_node g id (one j).graphs ≡ true → has_node g id t.graphs ≡ false) (each one (range_with_len k m))
  not_in_later j k zero less = tt
  not_in_later j k (suc m) less = (not_in_both j k less, not_in_later j (k + 1) m (omega arith))

  pub none_twice : (k m : ℕ) → HaveNoNodeTwice (each (λ k. shard_renamed (labels_by (ops os)) (sum (ops_in (in_shard shards k) os))) (range_with_len k m))
  none_twice k zero = tt
  none_twice k (suc m) = (not_in_later k (k + 1) m (omega arith), none_twice (k + 1) m)

pub no_node_is_there_twice : NoNodeIsThereTwice
no_node_is_there_twice shards os sound few = none_twice shards os sound few 0 shards
