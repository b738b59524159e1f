-- What is read of a sum that was put beside others.
use Rattle.std.proofs.Common.{◌≡◌, ℕ, List, [], ◌∷◌, Bool, true, false, cond, ◌&&◌, ◌||◌, Option, Some, None, is_some, refl, ap, ◌∙◌}
use Rattle.std.specs.Prelude.{if◌then◌else◌, map as each, ⊤}
use Rattle.std.specs.Str.{bytes_eq}
use Rattle.std.specs.List.{list_any}
use Rattle.std.specs.Option.{option_or}
use Rattle.ld_model.specs.Tree.{Tree}
use Rattle.node_model.specs.Maps.{MapOf, at, with_at}
use Rattle.node_model.specs.NodeMap.{Node, Graphs, graph_in, on_graph, with_node, on_node}
use Rattle.op_model.specs.Names.{Name}
use Rattle.op_model.specs.Ops.{Entry}
use Rattle.op_model.specs.Running.{label_in, entry_in}
use Rattle.op_laws.proofs.Read.{at_after, graph_after, graph_there, same_graph}
use Rattle.sum_model.specs.Sums.{Key, PartEntry, Sum}
use Rattle.shard_model.specs.Renamed.{properties_put, node_renamed, graphs_put, sum_put}
use Rattle.shard_laws.proofs.Folds.{last, read_last, read_any, kept, all_of}
use Rattle.shard_laws.proofs.Order.{IsInOrder, on_graph_in_order, on_node_in_order}

pub one_or : {W : Type 0} (b : Bool) (v : W) (o : Option W) → cond b (Some v) o ≡ option_or (cond b (Some v) None) o
one_or true v o = refl
one_or false v o = refl

module _ (names : List Name) where
  -- What a property of these has at a label, and a node of these in a graph.
  abbrev pub gives_entries : List ℕ → Name × List Entry → Option (List Tree)
  gives_entries q p = cond (bytes_eq q (label_in names p.0)) (Some (each (entry_in names) p.1)) None

  abbrev pub is_at : List ℕ → List ℕ → Key → Bool
  is_at g id k = bytes_eq g (label_in names k.0) && bytes_eq id (label_in names k.1)

  abbrev pub gives_node : List ℕ → List ℕ → Key × PartEntry → Option Node
  gives_node g id e = cond (is_at g id e.0) (Some (node_renamed names e.1)) None

  pub entries_read : (q : List ℕ) (ps : List (Name × List Entry)) (m : MapOf (List Tree)) → at q (properties_put names ps m) ≡ option_or (last (gives_entries q) ps) (at q m)
  entries_read q ps m =
      read_last (λ m p. with_at (label_in names p.0) (each (entry_in names) p.1) m) (at q) (gives_entries q) (λ p. ⊤)
      (λ m p is. at_after q (label_in names p.0) (each (entry_in names) p.1) m ∙ one_or (bytes_eq q (label_in names p.0)) (each (entry_in names) p.1) (at q m))
      ps m (all_of (λ p. ⊤) (λ p. tt) ps)

  pub node_after_put : (q id g n : List ℕ) (v : Node) (graphs : Graphs) → at id (graph_in q (on_node g n (λ x. v) graphs)) ≡ option_or (cond (bytes_eq q g && bytes_eq id n) (Some v) None) (at id (graph_in q graphs))
  node_after_put q id g n v graphs = ap (at id) (graph_after q g (with_node n (λ x. v)) graphs) ∙ by_test (bytes_eq q g)
    where
      by_test : (b : Bool) → at id (if b then with_node n (λ x. v) (graph_in q graphs) else graph_in q graphs) ≡ option_or (cond (b && bytes_eq id n) (Some v) None) (at id (graph_in q graphs))
      by_test true = at_after id n v (graph_in q graphs) ∙ one_or (bytes_eq id n) v (at id (graph_in q graphs))
      by_test false = refl

  graphs_only : (q : List ℕ) (gs : List Name) (graphs : Graphs) → graph_in q (graphs_put names gs graphs) ≡ graph_in q graphs
  graphs_only q [] graphs = refl
  graphs_only q (g ∷ gs) graphs = graphs_only q gs (on_graph (label_in names g) (λ nodes. nodes) graphs) ∙ same_graph q (label_in names g) graphs

  pub node_read : (g id : List ℕ) (s : Sum) (graphs : Graphs) → at id (graph_in g (sum_put names s graphs)) ≡ option_or (last (gives_node g id) s.nodes) (at id (graph_in g graphs))
  node_read g id s graphs =
      read_last (λ graphs e. on_node (label_in names e.0.0) (label_in names e.0.1) (λ n. node_renamed names e.1) graphs) (λ graphs. at id (graph_in g graphs)) (gives_node g id) (λ e. ⊤)
      (λ graphs e is. node_after_put g id (label_in names e.0.0) (label_in names e.0.1) (node_renamed names e.1) graphs)
      s.nodes (graphs_put names s.graphs graphs) (all_of (λ e. ⊤) (λ e. tt) s.nodes)
      ∙ ap (λ nodes. option_or (last (gives_node g id) s.nodes) (at id nodes)) (graphs_only g s.graphs graphs)

  abbrev pub is_in : List ℕ → Key × PartEntry → Bool
  is_in g e = bytes_eq g (label_in names e.0.0)

  abbrev pub is_graph : List ℕ → Name → Bool
  is_graph g h = bytes_eq g (label_in names h)

  pub graph_read : (g : List ℕ) (s : Sum) (graphs : Graphs) → is_some (at g (sum_put names s graphs)) ≡ (list_any (is_in g) s.nodes || (list_any (is_graph g) s.graphs || is_some (at g graphs)))
  graph_read g s graphs =
      read_any (λ graphs e. on_node (label_in names e.0.0) (label_in names e.0.1) (λ n. node_renamed names e.1) graphs) (λ graphs. is_some (at g graphs)) (is_in g)
      (λ graphs e. graph_there g (label_in names e.0.0) (with_node (label_in names e.0.1) (λ n. node_renamed names e.1)) graphs)
      s.nodes (graphs_put names s.graphs graphs)
      ∙ ap (λ b. list_any (is_in g) s.nodes || b)
      (read_any (λ graphs h. on_graph (label_in names h) (λ nodes. nodes) graphs) (λ graphs. is_some (at g graphs)) (is_graph g)
      (λ graphs h. graph_there g (label_in names h) (λ nodes. nodes) graphs) s.graphs graphs)

  pub put_in_order : (s : Sum) (graphs : Graphs) → IsInOrder graphs → IsInOrder (sum_put names s graphs)
  put_in_order s graphs order =
      kept (λ graphs e. on_node (label_in names e.0.0) (label_in names e.0.1) (λ n. node_renamed names e.1) graphs) IsInOrder (λ e. ⊤)
      (λ graphs e is all. on_node_in_order (label_in names e.0.0) (label_in names e.0.1) (λ n. node_renamed names e.1) graphs is)
      s.nodes (graphs_put names s.graphs graphs)
      (kept (λ graphs h. on_graph (label_in names h) (λ nodes. nodes) graphs) IsInOrder (λ h. ⊤)
      (λ graphs h is all. on_graph_in_order (label_in names h) (λ nodes. nodes) graphs (λ nodes ascend. ascend) is)
      s.graphs graphs order (all_of (λ h. ⊤) (λ h. tt) s.graphs))
      (all_of (λ e. ⊤) (λ e. tt) s.nodes)
