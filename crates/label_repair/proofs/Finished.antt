-- Finished shards, put together, are the node map that the shards make.
use Rattle.std.proofs.Common.{◌≡◌, ℕ, suc, ◌==◌, List, [], ◌∷◌, ◌++◌, length, true, Option, Some, None, Ok, Ordering, Less, Equal, Greater, refl, sym, ap, ap₂, ◌∙◌, subst, eqb-true}
use Rattle.std.specs.Prelude.{map as each}
use Rattle.std.specs.List.{fold, AllByRecursion}
use Rattle.std.specs.Ordering.{match_ordering, is_eq}
use Rattle.std.specs.Option.{option_map}
use Rattle.std.specs.BTreeMap.{insert_entry}
use Rattle.std.specs.Global.{Vec}
use Rattle.std.specs.Map.{keys_of}
use Rattle.std.specs.List.Sorted.{IsStrictlySortedBy}
use Rattle.std.proofs.lemmas.Map.Lookups.{exact_bytes}
use Rattle.std.proofs.lemmas.Map.Text.{is_eq-slice_cmp}
use Rattle.ld_model.specs.Tree.{Tree, Pairs, AreAscending, IsBefore, object, members_of, byte_order, put}
use Rattle.ld_model.proofs.Puts.{ascending-put, ascending_nil, ascending_head, ascending_tail, all_after}
use Rattle.ld_tree.specs.Built.{put_all, built}
use Rattle.ld_tree.specs.declared.value.Tree as code
use Rattle.node_model.specs.Maps.{at, with_at}
use Rattle.node_model.specs.NodeMap.{Node, Graph, Graphs, graph_or_new, graph_in, on_graph}
use Rattle.node_model.specs.AsTrees.{node_members, node_pair, graph_pairs}
use Rattle.node_model.specs.Generating.{empty}
use Rattle.node_logs.proofs.Maps.{at-shown, shown-insert, with_at-apart, with_at-with_at}
use Rattle.node_logs.proofs.GraphLemmas as keyed
use Rattle.op_model.specs.Names.{Name}
use Rattle.op_model.specs.Running.{label_in}
use Rattle.sum_model.specs.Sums.{Key, PartEntry, Sum}
use Rattle.shard_model.specs.Renamed as renaming
use Rattle.shard_model.specs.Renamed.{PlacedConflict, Shard, node_renamed, graphs_put, renamed}
use Rattle.shard_model.specs.Joined as model
use Rattle.shard_model.specs.Joined.{nodes_added, graphs_added, earlier_of, joined}
use Rattle.label_repair.specs.Made.{graphs_made, nodes_made, made}
use Rattle.label_repair.specs.Shards.{built_view}
use Rattle.label_repair.specs.Finished.{graphs_finished, finished, pairs_or_none, graph_put, pairs_put, graph_trees, outcome_of, finished_joined}

-- Pairs, and those behind them.
pub put_all-both : (a b ms : Pairs) → put_all (a ++ b) ms ≡ put_all b (put_all a ms)
put_all-both [] b ms = refl
put_all-both (p ∷ a) b ms = put_all-both a b (insert_entry byte_order ms p.0 p.1)

-- Something put at a key that comes before those of other pairs can be put behind them.
put_past : (k : List ℕ) (t : Tree) (ps ms : Pairs) → AllByRecursion (IsBefore k) (keys_of ps) → put_all ps (insert_entry byte_order ms k t) ≡ insert_entry byte_order (put_all ps ms) k t
unfolding with_at
put_past k t [] ms all = refl
put_past k t (p ∷ ps) ms all =
    ap (put_all ps) (sym (with_at-apart k p.0 t p.1 ms (sym (is_eq-slice_cmp k p.0) ∙ ap is_eq all.0)))
    ∙ put_past k t ps (insert_entry byte_order ms p.0 p.1) all.1

-- Ascending pairs with one more, put into members, are the pairs put there and then the one.
put_one_more : (k : List ℕ) (t : Tree) (ps ms : Pairs) → AreAscending ps → put_all (insert_entry byte_order ps k t) ms ≡ insert_entry byte_order (put_all ps ms) k t
unfolding with_at
put_one_more k t [] ms sorted = refl
put_one_more k t (p ∷ ps) ms sorted = by_order (byte_order k p.0) refl (put_one_more k t ps (insert_entry byte_order ms p.0 p.1) (ascending_tail p ps sorted))
  where
    by_order : (o : Ordering) → byte_order k p.0 ≡ o → put_all (insert_entry byte_order ps k t) (insert_entry byte_order ms p.0 p.1) ≡ insert_entry byte_order (put_all ps (insert_entry byte_order ms p.0 p.1)) k t → put_all (match_ordering o ((k, t) ∷ p ∷ ps) ((p.0, t) ∷ ps) (p ∷ insert_entry byte_order ps k t)) ms ≡ insert_entry byte_order (put_all ps (insert_entry byte_order ms p.0 p.1)) k t
    by_order Less is rest = put_past k t (p ∷ ps) ms (is, all_after k p.0 ps is (ascending_head p ps sorted))
    by_order Equal is rest =
        ap (put_all ps) (sym (with_at-with_at p.0 t p.1 ms))
        ∙ put_past p.0 t ps (insert_entry byte_order ms p.0 p.1) (ascending_head p ps sorted)
        ∙ ap (λ x. insert_entry byte_order (put_all ps (insert_entry byte_order ms p.0 p.1)) x t) (sym (exact_bytes k p.0 is))
    by_order Greater is rest = rest

put_ascends : (k : List ℕ) (t : Tree) (ms : Pairs) → AreAscending ms → AreAscending (insert_entry byte_order ms k t)
unfolding put
put_ascends k t ms sorted = ascending-put k t ms sorted

put_twice : (ps qs ms : Pairs) → AreAscending qs → put_all (put_all ps qs) ms ≡ put_all ps (put_all qs ms)
put_twice [] qs ms sorted = refl
put_twice (p ∷ ps) qs ms sorted =
    put_twice ps (insert_entry byte_order qs p.0 p.1) ms (put_ascends p.0 p.1 qs sorted)
    ∙ ap (put_all ps) (put_one_more p.0 p.1 qs ms sorted)

-- What pairs make, put into members, is the pairs put there.
pub put_built : (ps ms : Pairs) → put_all (built ps) ms ≡ put_all ps ms
put_built ps ms = put_twice ps [] ms ascending_nil

pub no_pairs : (ps : List (List ℕ × code.Tree)) (n : ℕ) → n ≡ length ps → (n == 0) ≡ true → ps ≡ []
no_pairs [] n is none = refl
no_pairs (p ∷ ps) n is none = absurd (let no : suc (length ps) ≡ 0 = sym is ∙ eqb-true n 0 none in cc)

-- The JSON of a node, by its id.
abbrev node_tree : List ℕ → Node → Tree
node_tree id n = object (members_of (node_members id n))

node_put : (id : List ℕ) (n : Node) (nodes : Graph) → insert_entry byte_order (each node_pair nodes) id (node_tree id n) ≡ each node_pair (with_at id n nodes)
unfolding with_at
node_put id n nodes = sym (keyed.shown-insert node_tree id n nodes)

nodes_put : (more nodes : Graph) → put_all (each node_pair more) (each node_pair nodes) ≡ each node_pair (nodes_added more nodes)
nodes_put [] nodes = refl
nodes_put (e ∷ more) nodes = ap (put_all (each node_pair more)) (node_put e.0 e.1 nodes) ∙ nodes_put more (with_at e.0 e.1 nodes)

none_or : (o : Option Graph) → pairs_or_none (option_map (each node_pair) o) ≡ each node_pair (graph_or_new o)
none_or (Some nodes) = refl
none_or None = refl

graph_is_put : (g : List ℕ) (more : Graph) (graphs : Graphs) → graph_put g (each node_pair more) (graphs_finished graphs) ≡ graphs_finished (on_graph g (nodes_added more) graphs)
unfolding with_at
graph_is_put g more graphs =
    let here : pairs_or_none (at g (graphs_finished graphs)) ≡ each node_pair (graph_in g graphs) = ap pairs_or_none (at-shown (each node_pair) g graphs) ∙ none_or (at g graphs) in
    ap (λ ps. with_at g ps (graphs_finished graphs)) (ap (put_all (each node_pair more)) here ∙ nodes_put more (graph_in g graphs))
    ∙ sym (shown-insert (each node_pair) g (nodes_added more (graph_in g graphs)) graphs)

graphs_are_put : (more graphs : Graphs) → pairs_put (graphs_finished more) (graphs_finished graphs) ≡ graphs_finished (graphs_added more graphs)
graphs_are_put [] graphs = refl
graphs_are_put (g ∷ more) graphs =
    ap (pairs_put (graphs_finished more)) (graph_is_put g.0 g.1 graphs) ∙ graphs_are_put more (on_graph g.0 (nodes_added g.1) graphs)

-- The graphs and nodes of a sum, made one after another.
graphs_are_made : (names gs : List Name) (graphs : Graphs) → graphs_made names gs (graphs_finished graphs) ≡ graphs_finished (graphs_put names gs graphs)
graphs_are_made names [] graphs = refl
graphs_are_made names (g ∷ gs) graphs =
    ap (graphs_made names gs) (graph_is_put (label_in names g) [] graphs)
    ∙ graphs_are_made names gs (on_graph (label_in names g) (nodes_added []) graphs)

nodes_are_made : (names : List Name) (es : List (Key × PartEntry)) (graphs : Graphs) → nodes_made names es (graphs_finished graphs) ≡ graphs_finished (renaming.nodes_put names es graphs)
nodes_are_made names [] graphs = refl
nodes_are_made names (e ∷ es) graphs =
    let more : Graph = (label_in names e.0.1, node_renamed names e.1) ∷ [] in
    ap (nodes_made names es) (graph_is_put (label_in names e.0.0) more graphs)
    ∙ nodes_are_made names es (on_graph (label_in names e.0.0) (nodes_added more) graphs)

pub made_is_finished : (names : List Name) (s : Sum) → made names s ≡ graphs_finished (renamed names s)
made_is_finished names s =
    ap (nodes_made names s.nodes) (graphs_are_made names s.graphs [])
    ∙ nodes_are_made names s.nodes (graphs_put names s.graphs [])

-- The shards, one after another.
graphs_from : (ss : List Shard) (graphs : Graphs)
    → fold (λ graphs s. pairs_put s.graphs graphs) (graphs_finished graphs) (each finished ss) ≡ graphs_finished (fold (λ graphs s. graphs_added s.graphs graphs) graphs ss)
graphs_from [] graphs = refl
graphs_from (s ∷ ss) graphs =
    ap (λ gs. fold (λ graphs s. pairs_put s.graphs graphs) gs (each finished ss)) (graphs_are_put s.graphs graphs)
    ∙ graphs_from ss (graphs_added s.graphs graphs)

conflict_from : (ss : List Shard) (c : Option PlacedConflict) → fold (λ c s. earlier_of c s.conflict) c (each finished ss) ≡ fold (λ c s. earlier_of c s.conflict) c ss
conflict_from [] c = refl
conflict_from (s ∷ ss) c = conflict_from ss (earlier_of c s.conflict)

trees_are : (graphs : Graphs) → graph_trees (graphs_finished graphs) ≡ graph_pairs graphs
trees_are [] = refl
trees_are (g ∷ graphs) = ap (λ l. (g.0, object (members_of (each node_pair g.1))) ∷ l) (trees_are graphs)

outcome_is : (c : Option PlacedConflict) (graphs : Graphs) → outcome_of c (graphs_finished graphs) ≡ model.outcome_of c graphs
outcome_is (Some c) graphs = refl
outcome_is None graphs = ap Ok (trees_are graphs)

-- Whatever shards are finished: together they make the node map that the shards make, or have the same first conflict.
pub finished_is_joined : (ss : List Shard) → finished_joined (each finished ss) ≡ joined ss
finished_is_joined ss =
    ap₂ outcome_of (conflict_from ss None) (graphs_from ss empty.graphs)
    ∙ outcome_is (model.conflict_joined ss) (model.graphs_joined ss)

-- The names of graphs ascend, also once the graphs are trees.
keys_of-trees : (gs : List (List ℕ × Vec (List ℕ × code.Tree))) → keys_of (graph_trees (built_view gs)) ≡ keys_of gs
keys_of-trees [] = refl
keys_of-trees (g ∷ gs) = ap (λ l. g.0 ∷ l) (keys_of-trees gs)

pub trees_ascend : (gs : List (List ℕ × Vec (List ℕ × code.Tree))) → IsStrictlySortedBy byte_order (keys_of gs) → AreAscending (graph_trees (built_view gs))
trees_ascend gs sorted = subst (IsStrictlySortedBy byte_order) (sym (keys_of-trees gs)) sorted
