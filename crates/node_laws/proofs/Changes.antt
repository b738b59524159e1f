-- What a look-up finds in a node map once something in it is changed.
use Rattle.std.proofs.Common.{◌≡◌, ℕ, List, Bool, true, false, cond, ◌&&◌, ◌||◌, Option, Some, is_some, refl, sym, ap, ◌∙◌}
use Rattle.std.specs.Str.{bytes_eq}
use Rattle.ld_model.specs.Tree.{Tree}
use Rattle.ld_model.proofs.Puts.{bytes_eq-exact}
use Rattle.node_model.specs.Maps.{MapOf, at, with_at}
use Rattle.node_model.specs.NodeMap.{Node, Graph, Graphs, node_or_new, graph_or_new, entries_or_none, graph_in, node_in, entries_in, on_graph, with_node, on_node, with_entries}
use Rattle.node_laws.proofs.Maps.{at-with_at, at-with_at_other}

-- What stands at a key is made from what stood there.
at-changed : {V : Type 0} (q k : List ℕ) (made : Option V → V) (m : MapOf V) → at q (with_at k (made (at k m)) m) ≡ cond (bytes_eq q k) (Some (made (at q m))) (at q m)
at-changed q k made m = by_test (bytes_eq q k) refl
  where
    by_test : (b : Bool) → bytes_eq q k ≡ b → at q (with_at k (made (at k m)) m) ≡ cond b (Some (made (at q m))) (at q m)
    by_test true same =
        let e : q ≡ k = bytes_eq-exact q k same in
        ap (λ x. at x (with_at k (made (at k m)) m)) e ∙ at-with_at k (made (at k m)) m ∙ ap (λ x. Some (made (at x m))) (sym e)
    by_test false apart = at-with_at_other q k (made (at k m)) m apart

-- A function that is taken into both ways.
pub ap_cond : {X Y : Type 0} (f : X → Y) (b : Bool) (x y : X) → f (cond b x y) ≡ cond b (f x) (f y)
ap_cond f true x y = refl
ap_cond f false x y = refl

pub at-on_graph : (h g : List ℕ) (change : Graph → Graph) (graphs : Graphs) → at h (on_graph g change graphs) ≡ cond (bytes_eq h g) (Some (change (graph_in h graphs))) (at h graphs)
at-on_graph h g change graphs = at-changed h g (λ o. change (graph_or_new o)) graphs

graph_in-on_graph : (h g : List ℕ) (change : Graph → Graph) (graphs : Graphs) → graph_in h (on_graph g change graphs) ≡ cond (bytes_eq h g) (change (graph_in h graphs)) (graph_in h graphs)
graph_in-on_graph h g change graphs = ap graph_or_new (at-on_graph h g change graphs) ∙ ap_cond graph_or_new (bytes_eq h g) (Some (change (graph_in h graphs))) (at h graphs)

at-with_node : (k id : List ℕ) (change : Node → Node) (nodes : Graph) → at k (with_node id change nodes) ≡ cond (bytes_eq k id) (Some (change (node_in k nodes))) (at k nodes)
at-with_node k id change nodes = at-changed k id (λ o. change (node_or_new o)) nodes

-- A graph that is made where it is missing.
pub graph_stands : (h g : List ℕ) (change : Graph → Graph) (graphs : Graphs) → is_some (at h (on_graph g change graphs)) ≡ (bytes_eq h g || is_some (at h graphs))
graph_stands h g change graphs = ap is_some (at-on_graph h g change graphs) ∙ by_test (bytes_eq h g)
  where
    by_test : (b : Bool) → is_some (cond b (Some (change (graph_in h graphs))) (at h graphs)) ≡ (b || is_some (at h graphs))
    by_test true = refl
    by_test false = refl

pub graph_kept : (h k g : List ℕ) (graphs : Graphs) → at k (graph_in h (on_graph g (λ nodes. nodes) graphs)) ≡ at k (graph_in h graphs)
graph_kept h k g graphs = ap (at k) (graph_in-on_graph h g (λ nodes. nodes) graphs ∙ by_test (bytes_eq h g))
  where
    by_test : (b : Bool) → cond b (graph_in h graphs) (graph_in h graphs) ≡ graph_in h graphs
    by_test true = refl
    by_test false = refl

pub at-on_node : (h k g id : List ℕ) (change : Node → Node) (graphs : Graphs)
    → at k (graph_in h (on_node g id change graphs)) ≡ cond (bytes_eq h g && bytes_eq k id) (Some (change (node_in k (graph_in h graphs)))) (at k (graph_in h graphs))
at-on_node h k g id change graphs =
    ap (at k) (graph_in-on_graph h g (with_node id change) graphs)
    ∙ ap_cond (at k) (bytes_eq h g) (with_node id change (graph_in h graphs)) (graph_in h graphs)
    ∙ ap (λ o. cond (bytes_eq h g) o (at k (graph_in h graphs))) (at-with_node k id change (graph_in h graphs))
    ∙ both (bytes_eq h g) (bytes_eq k id) (Some (change (node_in k (graph_in h graphs)))) (at k (graph_in h graphs))
  where
    both : (b c : Bool) (x y : Option Node) → cond b (cond c x y) y ≡ cond (b && c) x y
    both true c x y = refl
    both false c x y = refl

-- The entries of a property, and whether it is there.
pub entries_in-with_entries : (p q : List ℕ) (change : List Tree → List Tree) (ps : MapOf (List Tree)) → entries_in p (with_entries q change ps) ≡ cond (bytes_eq p q) (change (entries_in p ps)) (entries_in p ps)
entries_in-with_entries p q change ps =
    ap entries_or_none (at-changed p q (λ o. change (entries_or_none o)) ps)
    ∙ ap_cond entries_or_none (bytes_eq p q) (Some (change (entries_in p ps))) (at p ps)

pub property_stands : (p q : List ℕ) (change : List Tree → List Tree) (ps : MapOf (List Tree)) → is_some (at p (with_entries q change ps)) ≡ (bytes_eq p q || is_some (at p ps))
property_stands p q change ps = ap is_some (at-changed p q (λ o. change (entries_or_none o)) ps) ∙ by_test (bytes_eq p q)
  where
    by_test : (b : Bool) → is_some (cond b (Some (change (entries_in p ps))) (at p ps)) ≡ (b || is_some (at p ps))
    by_test true = refl
    by_test false = refl
