-- What is read of a node map once something was changed in it.
use Rattle.std.proofs.Common.{◌≡◌, ℕ, List, cond, Bool, true, false, ◌&&◌, ◌||◌, if◌then◌else◌, Option, Some, None, refl, sym, ap, ◌∙◌}
use Rattle.std.specs.Prelude.{is_some}
use Rattle.std.specs.Str.{bytes_eq}
use Rattle.ld_model.specs.Tree.{Tree}
use Rattle.ld_model.proofs.Puts.{bytes_eq-exact}
use Rattle.node_model.specs.Maps.{MapOf, at, with_at}
use Rattle.node_model.specs.NodeMap.{Node, Graph, Graphs, node_or_new, graph_or_new, entries_or_none, graph_in, node_in, entries_in, on_graph, with_node, on_node, with_entries}
use Rattle.node_laws.proofs.Maps.{at-with_at, at-with_at_other}

pub at_after : {V : Type 0} (q k : List ℕ) (v : V) (m : MapOf V) → at q (with_at k v m) ≡ cond (bytes_eq q k) (Some v) (at q m)
at_after {V} q k v m = by_test (bytes_eq q k) refl
  where
    by_test : (b : Bool) → bytes_eq q k ≡ b → at q (with_at k v m) ≡ cond b (Some v) (at q m)
    by_test true same = ap (λ x. at x (with_at k v m)) (bytes_eq-exact q k same) ∙ at-with_at k v m
    by_test false apart = at-with_at_other q k v m apart

-- A change at a key, read at a key by a function with a default.
module _ {V X : Type 0} (read : Option V → X) where
  read_after : (change : X → X) (q k : List ℕ) (v : V) (m : MapOf V) → read (Some v) ≡ change (read (at k m)) → read (at q (with_at k v m)) ≡ (if bytes_eq q k then change (read (at q m)) else read (at q m))
  read_after change q k v m is = ap read (at_after q k v m) ∙ by_test (bytes_eq q k) refl
    where
      by_test : (b : Bool) → bytes_eq q k ≡ b → read (cond b (Some v) (at q m)) ≡ (if b then change (read (at q m)) else read (at q m))
      by_test true same = is ∙ ap (λ x. change (read (at x m))) (sym (bytes_eq-exact q k same))
      by_test false apart = refl

pub graph_after : (q g : List ℕ) (change : Graph → Graph) (graphs : Graphs) → graph_in q (on_graph g change graphs) ≡ (if bytes_eq q g then change (graph_in q graphs) else graph_in q graphs)
graph_after q g change graphs = read_after graph_or_new change q g (change (graph_in g graphs)) graphs refl

pub node_after : (q id : List ℕ) (change : Node → Node) (nodes : Graph) → node_in q (with_node id change nodes) ≡ (if bytes_eq q id then change (node_in q nodes) else node_in q nodes)
node_after q id change nodes = read_after node_or_new change q id (change (node_in id nodes)) nodes refl

pub entries_after : (q property : List ℕ) (change : List Tree → List Tree) (ps : MapOf (List Tree)) → entries_in q (with_entries property change ps) ≡ (if bytes_eq q property then change (entries_in q ps) else entries_in q ps)
entries_after q property change ps = read_after entries_or_none change q property (change (entries_in property ps)) ps refl

is_there_after : {V : Type 0} (q k : List ℕ) (v : V) (m : MapOf V) → is_some (at q (with_at k v m)) ≡ (bytes_eq q k || is_some (at q m))
is_there_after {V} q k v m = ap is_some (at_after q k v m) ∙ by_test (bytes_eq q k)
  where
    by_test : (b : Bool) → is_some (cond b (Some v) (at q m)) ≡ (b || is_some (at q m))
    by_test true = refl
    by_test false = refl

pub graph_there : (q g : List ℕ) (change : Graph → Graph) (graphs : Graphs) → is_some (at q (on_graph g change graphs)) ≡ (bytes_eq q g || is_some (at q graphs))
graph_there q g change graphs = is_there_after q g (change (graph_in g graphs)) graphs

-- A node of a graph, where one is changed.
module _ (h q g id : List ℕ) (change : Node → Node) (graphs : Graphs) where
  pub node_in_after : node_in q (graph_in h (on_node g id change graphs)) ≡ (if bytes_eq h g && bytes_eq q id then change (node_in q (graph_in h graphs)) else node_in q (graph_in h graphs))
  node_in_after = ap (node_in q) (graph_after h g (with_node id change) graphs) ∙ by_test (bytes_eq h g)
    where
      by_test : (b : Bool) → node_in q (if b then with_node id change (graph_in h graphs) else graph_in h graphs) ≡ (if b && bytes_eq q id then change (node_in q (graph_in h graphs)) else node_in q (graph_in h graphs))
      by_test true = node_after q id change (graph_in h graphs)
      by_test false = refl

  pub node_there : is_some (at q (graph_in h (on_node g id change graphs))) ≡ ((bytes_eq h g && bytes_eq q id) || is_some (at q (graph_in h graphs)))
  node_there = ap (λ nodes. is_some (at q nodes)) (graph_after h g (with_node id change) graphs) ∙ by_test (bytes_eq h g)
    where
      by_test : (b : Bool) → is_some (at q (if b then with_node id change (graph_in h graphs) else graph_in h graphs)) ≡ ((b && bytes_eq q id) || is_some (at q (graph_in h graphs)))
      by_test true = is_there_after q id (change (node_in id (graph_in h graphs))) (graph_in h graphs)
      by_test false = refl

-- A change that leaves the nodes of a graph as they are.
pub same_graph : (q g : List ℕ) (graphs : Graphs) → graph_in q (on_graph g (λ nodes. nodes) graphs) ≡ graph_in q graphs
same_graph q g graphs = graph_after q g (λ nodes. nodes) graphs ∙ by_test (bytes_eq q g)
  where
    by_test : (b : Bool) → (if b then graph_in q graphs else graph_in q graphs) ≡ graph_in q graphs
    by_test true = refl
    by_test false = refl

-- A node that has an index is there, and so is its graph.
pub indexed_is_there : (g id first : List ℕ) (graphs : Graphs) → (node_in id (graph_in g graphs)).index ≡ Some first → (is_some (at g graphs) ≡ true) × (is_some (at id (graph_in g graphs)) ≡ true)
indexed_is_there g id first graphs is = (by_graph (at g graphs) is, by_node (at id (graph_in g graphs)) is)
  where
    by_node : (o : Option Node) → (node_or_new o).index ≡ Some first → is_some o ≡ true
    by_node (Some n) is = refl
    by_node None is = absurd (cc)

    by_graph : (o : Option Graph) → (node_in id (graph_or_new o)).index ≡ Some first → is_some o ≡ true
    by_graph (Some nodes) is = refl
    by_graph None is = absurd (cc)
