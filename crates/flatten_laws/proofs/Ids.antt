-- The nodes of the outcome ascend by their ids.
use Rattle.std.proofs.Common.{◌≡◌, ℕ, List, [], ◌∷◌, Bool, true, false, cond, Some, refl, sym, ap, subst}
use Rattle.std.specs.Prelude.{filter, map as each}
use Rattle.std.specs.List.{AllByRecursion}
use Rattle.std.specs.Map.{keys_of}
use Rattle.ld_model.specs.Tree.{Tree, object, Pairs, member_list-members_of, AreAscending}
use Rattle.ld_model.specs.Label.{no_labels}
use Rattle.ld_model.specs.NodeMap.{items_into}
use Rattle.ld_model.specs.Flatten.{has_more, nodes_of}
use Rattle.flatten_laws.specs.Statements.{id_of, text_of}
use Rattle.flatten_laws.specs.Laws.{flattened, AscendById, NodesAscendById}
use Rattle.ld_model.proofs.Puts.{ascending_nil, ascending_cons, ascending_head, ascending_tail}
use Rattle.flatten_laws.proofs.Graph.{IsNode, IsGraph, items_is_graph, empty_is_graph}

-- The nodes that generation gives.
abbrev pub nodes_from : List Tree → Pairs
nodes_from ts = (items_into ts (record { nodes = []; labels = no_labels })).nodes

pub flattened-is : (ts : List Tree) → flattened ts ≡ nodes_of (nodes_from ts)
flattened-is ts = ap nodes_of (member_list-members_of (nodes_from ts))

pub nodes_from_is_graph : (ts : List Tree) → IsGraph (nodes_from ts)
nodes_from_is_graph ts = items_is_graph ts _ empty_is_graph

pub id_of-node : (k : List ℕ) (t : Tree) → IsNode (k, t) → id_of t ≡ Some k
id_of-node k (object ms) is = ap text_of is.id_at
id_of-node k _ is = absurd is

all-filter : (P : List ℕ → Type 0) (test : List ℕ × Tree → Bool) (ms : Pairs) → AllByRecursion P (keys_of ms) → AllByRecursion P (keys_of (filter test ms))
all-filter P test [] all = tt
all-filter P test (m ∷ ms) all = by_test (test m) (all-filter P test ms all.1)
  where
    by_test : (b : Bool) → AllByRecursion P (keys_of (filter test ms)) → AllByRecursion P (keys_of (cond b (m ∷ filter test ms) (filter test ms)))
    by_test true rest = (all.0, rest)
    by_test false rest = rest

ascending-filter : (test : List ℕ × Tree → Bool) (ms : Pairs) → AreAscending ms → AreAscending (filter test ms)
ascending-filter test [] sorted = ascending_nil
ascending-filter test (m ∷ ms) sorted = by_test (test m) (ascending-filter test ms (ascending_tail m ms sorted))
  where
    by_test : (b : Bool) → AreAscending (filter test ms) → AreAscending (cond b (m ∷ filter test ms) (filter test ms))
    by_test true rest = ascending_cons m (filter test ms) (all-filter _ test ms (ascending_head m ms sorted)) rest
    by_test false rest = rest

ids-nodes : (nodes : Pairs) → AllByRecursion IsNode nodes → each id_of (nodes_of nodes) ≡ each Some (keys_of (filter has_more nodes))
ids-nodes [] all = refl
ids-nodes (m ∷ nodes) all = by_test (has_more m) (ids-nodes nodes all.1)
  where
    by_test : (b : Bool) → each id_of (nodes_of nodes) ≡ each Some (keys_of (filter has_more nodes)) → each id_of (each (λ m. m.1) (cond b (m ∷ filter has_more nodes) (filter has_more nodes))) ≡ each Some (keys_of (cond b (m ∷ filter has_more nodes) (filter has_more nodes)))
    by_test true rest = λ i. id_of-node m.0 m.1 all.0 i ∷ rest i
    by_test false rest = rest

pub nodes_ascend : (nodes : Pairs) → IsGraph nodes → AscendById (nodes_of nodes)
nodes_ascend nodes graph = (keys_of (filter has_more nodes), ids-nodes nodes graph.each, ascending-filter has_more nodes graph.ascending)

pub nodes_ascend_by_id : NodesAscendById
nodes_ascend_by_id ts = subst AscendById (sym (flattened-is ts)) (nodes_ascend (nodes_from ts) (nodes_from_is_graph ts))
