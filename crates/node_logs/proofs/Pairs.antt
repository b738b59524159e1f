-- The keys of a map, once its values are made trees.
use Rattle.std.proofs.Common.{◌≡◌, ℕ, List, [], ◌∷◌, refl, sym, ap, subst}
use Rattle.std.specs.Prelude.{map}
use Rattle.std.specs.BTreeMap.{BTreeMap}
use Rattle.std.specs.List.Sorted.{IsStrictlySortedBy}
use Rattle.std.specs.Map.{keys_of}
use Rattle.ld_model.specs.Tree.{AreAscending, byte_order}
use Rattle.node_model.specs.AsTrees.{node_pair, graph_pairs}
use Rattle.node_logs.specs.Views.{graph_view, graphs_view}
use Rattle.node_logs.specs.declared.node.Node.{Node}

keys_of-nodes : (es : List (List ℕ × Node)) → keys_of (map node_pair (graph_view es)) ≡ keys_of es
keys_of-nodes [] = refl
keys_of-nodes (e ∷ es) = ap (λ l. e.0 ∷ l) (keys_of-nodes es)

pub nodes_ascend : (es : List (List ℕ × Node)) → IsStrictlySortedBy byte_order (keys_of es) → AreAscending (map node_pair (graph_view es))
nodes_ascend es sorted = subst (IsStrictlySortedBy byte_order) (sym (keys_of-nodes es)) sorted

keys_of-graphs : (es : List (List ℕ × BTreeMap (List ℕ) Node)) → keys_of (graph_pairs (graphs_view es)) ≡ keys_of es
keys_of-graphs [] = refl
keys_of-graphs (e ∷ es) = ap (λ l. e.0 ∷ l) (keys_of-graphs es)

pub graphs_ascend : (es : List (List ℕ × BTreeMap (List ℕ) Node)) → IsStrictlySortedBy byte_order (keys_of es) → AreAscending (graph_pairs (graphs_view es))
graphs_ascend es sorted = subst (IsStrictlySortedBy byte_order) (sym (keys_of-graphs es)) sorted
