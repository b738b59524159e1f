-- Node maps with the same graphs and the same nodes flatten alike. A node with nothing but its id counts as none.
use Rattle.std.proofs.Common.{◌≡◌, ℕ, List, [], ◌∷◌, Bool, true, false, cond, if◌then◌else◌, length, Option, Some, None, is_some, nat_lt, refl, sym, ap, ◌∙◌, subst}
use Rattle.std.specs.Prelude.{⊤, filter, map as each}
use Rattle.std.specs.Str.{bytes_eq}
use Rattle.std.specs.List.{AllByRecursion}
use Rattle.std.specs.Map.{keys_of}
use Rattle.ld_model.specs.Tree.{Tree, Members, Pairs, array, object, no_members, member, trees_of, members_of, member_list, member_list-members_of, member_at, put, AreAscending}
use Rattle.ld_model.specs.Keys.{graph_key, default_graph}
use Rattle.ld_model.specs.NodeMap.{node_or_new, node_at}
use Rattle.ld_model.specs.Flatten.{has_more, nodes_of, graph_of, graph_into, graphs_into, flatten}
use Rattle.ld_model.proofs.Puts.{bytes_eq-exact, at_first, at_later, member_at-put, member_at-put_other, all-put, ascending_nil, ascending_cons, ascending_head, ascending_tail, ascending-put}
use Rattle.ld_model.proofs.SameMembers.{missing, same_members}
use Rattle.node_laws.specs.Stated.{object_in}
use Rattle.node_laws.specs.Laws.{IsNodeInOrder, IsGraphInOrder, IsInForm}

-- Each is an object.
abbrev pub IsObject : List ℕ × Tree → Type 0
IsObject (k, object ms) = ⊤
IsObject _ = ⊥

-- What stays of a node with these members.
abbrev pub kept_if : Pairs → Option Tree
kept_if ms = if nat_lt 1 (length ms) then Some (object (members_of ms)) else None

all_kept : (P : List ℕ → Type 0) (test : List ℕ × Tree → Bool) (ms : Pairs) → AllByRecursion P (keys_of ms) → AllByRecursion P (keys_of (filter test ms))
all_kept P test [] all = tt
all_kept P test (m ∷ ms) all = by_test (test m) (all_kept P test ms all.1)
  where
    by_test : (b : Bool) → AllByRecursion P (keys_of (filter test ms)) → AllByRecursion P (keys_of (cond b (m ∷ filter test ms) (filter test ms)))
    by_test true rest = (all.0, rest)
    by_test false rest = rest

pub ascend_kept : (test : List ℕ × Tree → Bool) (ms : Pairs) → AreAscending ms → AreAscending (filter test ms)
ascend_kept test [] sorted = ascending_nil
ascend_kept test (m ∷ ms) sorted = by_test (test m) (ascend_kept test ms (ascending_tail m ms sorted))
  where
    by_test : (b : Bool) → AreAscending (filter test ms) → AreAscending (cond b (m ∷ filter test ms) (filter test ms))
    by_test true rest = ascending_cons m (filter test ms) (all_kept _ test ms (ascending_head m ms sorted)) rest
    by_test false rest = rest

-- A node that stays, by its key.
kept_first : (k : List ℕ) (t : Tree) → IsObject (k, t) → (if has_more (k, t) then Some t else None) ≡ kept_if (node_or_new k (Some t))
kept_first k (object ms) is = ap (λ ns. if nat_lt 1 (length (member_list ms)) then Some (object ns) else None) (sym (members_back ms))
  where
    members_back : (ms : Members) → members_of (member_list ms) ≡ ms
    members_back no_members = refl
    members_back (member k t ms) = ap (member k t) (members_back ms)
kept_first k _ is = absurd is

pub kept_at : (k : List ℕ) (nodes : Pairs) → AreAscending nodes → AllByRecursion IsObject nodes → member_at k (filter has_more nodes) ≡ kept_if (node_at k nodes)
kept_at k [] sorted all = refl
kept_at k (m ∷ nodes) sorted all = by_tests (bytes_eq k m.0) (has_more m) refl refl (kept_at k nodes (ascending_tail m nodes sorted) all.1)
  where
    none_later : bytes_eq k m.0 ≡ true → member_at k (filter has_more nodes) ≡ None
    none_later same = ap (λ x. member_at x (filter has_more nodes)) (bytes_eq-exact k m.0 same) ∙ missing m.0 (filter has_more nodes) (all_kept _ has_more nodes (ascending_head m nodes sorted))

    here : bytes_eq k m.0 ≡ true → kept_if (node_at k (m ∷ nodes)) ≡ (if has_more m then Some m.1 else None)
    here same =
        ap (λ o. kept_if (node_or_new k o)) (at_first k m nodes same)
        ∙ ap (λ x. kept_if (node_or_new x (Some m.1))) (bytes_eq-exact k m.0 same)
        ∙ sym (kept_first m.0 m.1 all.0)

    by_tests : (b c : Bool) → bytes_eq k m.0 ≡ b → has_more m ≡ c → member_at k (filter has_more nodes) ≡ kept_if (node_at k nodes) → member_at k (cond c (m ∷ filter has_more nodes) (filter has_more nodes)) ≡ kept_if (node_at k (m ∷ nodes))
    by_tests true true same more rest = at_first k m (filter has_more nodes) same ∙ sym (here same ∙ ap (λ b. if b then Some m.1 else None) more)
    by_tests true false same more rest = none_later same ∙ sym (here same ∙ ap (λ b. if b then Some m.1 else None) more)
    by_tests false true apart more rest = at_later k m (filter has_more nodes) apart ∙ rest ∙ ap (λ o. kept_if (node_or_new k o)) (sym (at_later k m nodes apart))
    by_tests false false apart more rest = rest ∙ ap (λ o. kept_if (node_or_new k o)) (sym (at_later k m nodes apart))

pub same_nodes_of : (nodes others : Pairs) → AreAscending nodes → AreAscending others → AllByRecursion IsObject nodes → AllByRecursion IsObject others → ((k : List ℕ) → node_at k nodes ≡ node_at k others) → nodes_of nodes ≡ nodes_of others
same_nodes_of nodes others sorted others_sorted all others_all same =
    ap (each (λ m. m.1))
    (same_members (filter has_more nodes) (filter has_more others) (ascend_kept has_more nodes sorted) (ascend_kept has_more others others_sorted)
    (λ k. kept_at k nodes sorted all ∙ ap kept_if (same k) ∙ sym (kept_at k others others_sorted others_all)))

-- The default graph, once the others stand in it.
abbrev pub with_part : Option Tree → Pairs → Pairs
with_part (Some t) ms = put graph_key (array (trees_of (nodes_of (graph_of (Some t))))) ms
with_part None ms = ms

-- The graph of this name, but the default graph.
abbrev pub part_at : List ℕ → Pairs → Option Tree
part_at k graphs = if bytes_eq k default_graph then None else member_at k graphs

abbrev into_one : List ℕ × Tree → Pairs → Pairs
into_one m nodes = if bytes_eq m.0 default_graph then nodes else graph_into m nodes

pub graphs_into_ascend : (graphs nodes : Pairs) → AreAscending nodes → AreAscending (graphs_into graphs nodes)
graphs_into_ascend [] nodes sorted = sorted
graphs_into_ascend (m ∷ graphs) nodes sorted = graphs_into_ascend graphs (into_one m nodes) (by_test (bytes_eq m.0 default_graph))
  where
    by_test : (b : Bool) → AreAscending (if b then nodes else graph_into m nodes)
    by_test true = sorted
    by_test false = ascending-put m.0 _ nodes sorted

pub graphs_into_objects : (graphs nodes : Pairs) → AllByRecursion IsObject nodes → AllByRecursion IsObject (graphs_into graphs nodes)
graphs_into_objects [] nodes all = all
graphs_into_objects (m ∷ graphs) nodes all = graphs_into_objects graphs (into_one m nodes) (by_test (bytes_eq m.0 default_graph))
  where
    by_test : (b : Bool) → AllByRecursion IsObject (if b then nodes else graph_into m nodes)
    by_test true = all
    by_test false = all-put IsObject m.0 (object (members_of (put graph_key (array (trees_of (nodes_of (graph_of (Some m.1))))) (node_at m.0 nodes)))) nodes tt all

node_at-put : (k q : List ℕ) (ms nodes : Pairs) (b : Bool) → bytes_eq k q ≡ b → node_at k (put q (object (members_of ms)) nodes) ≡ cond b ms (node_at k nodes)
node_at-put k q ms nodes true same =
    ap (λ x. node_or_new x (member_at x (put q (object (members_of ms)) nodes))) (bytes_eq-exact k q same)
    ∙ ap (node_or_new q) (member_at-put q (object (members_of ms)) nodes)
    ∙ member_list-members_of ms
node_at-put k q ms nodes false apart = ap (node_or_new k) (member_at-put_other k q (object (members_of ms)) nodes apart)

pub node_at-graphs_into : (k : List ℕ) (graphs nodes : Pairs) → AreAscending graphs → node_at k (graphs_into graphs nodes) ≡ with_part (part_at k graphs) (node_at k nodes)
node_at-graphs_into k [] nodes sorted = by_test (bytes_eq k default_graph)
  where
    by_test : (b : Bool) → node_at k nodes ≡ with_part (if b then None else None) (node_at k nodes)
    by_test true = refl
    by_test false = refl
node_at-graphs_into k (m ∷ graphs) nodes sorted =
    node_at-graphs_into k graphs (into_one m nodes) (ascending_tail m graphs sorted) ∙ by_tests (bytes_eq k m.0) (bytes_eq k default_graph) (bytes_eq m.0 default_graph) refl refl refl
  where
    -- Nothing stands later at the name of the first.
    none_later : bytes_eq k m.0 ≡ true → member_at k graphs ≡ None
    none_later same = ap (λ x. member_at x graphs) (bytes_eq-exact k m.0 same) ∙ missing m.0 graphs (ascending_head m graphs sorted)

    by_tests : (b c d : Bool) → bytes_eq k m.0 ≡ b → bytes_eq k default_graph ≡ c → bytes_eq m.0 default_graph ≡ d
        → with_part (if c then None else member_at k graphs) (node_at k (if d then nodes else graph_into m nodes)) ≡ with_part (if c then None else member_at k (m ∷ graphs)) (node_at k nodes)
    by_tests true true true same is_default is = refl
    by_tests true true false same is_default other =
        absurd (let no_way : true ≡ false = sym is_default ∙ ap (λ x. bytes_eq x default_graph) (bytes_eq-exact k m.0 same) ∙ other in cc)
    by_tests true false true same no_default is =
        absurd (let no_way : true ≡ false = sym is ∙ ap (λ x. bytes_eq x default_graph) (sym (bytes_eq-exact k m.0 same)) ∙ no_default in cc)
    by_tests true false false same no_default other =
        ap (λ o. with_part o (node_at k (graph_into m nodes))) (none_later same)
        ∙ node_at-put k m.0 _ nodes true same
        ∙ ap (λ x. put graph_key (array (trees_of (nodes_of (graph_of (Some m.1))))) (node_at x nodes)) (sym (bytes_eq-exact k m.0 same))
        ∙ ap (λ o. with_part o (node_at k nodes)) (sym (at_first k m graphs same))
    by_tests false true true apart is_default is = refl
    by_tests false true false apart is_default other = node_at-put k m.0 _ nodes false apart
    by_tests false false true apart no_default is = ap (λ o. with_part o (node_at k nodes)) (sym (at_later k m graphs apart))
    by_tests false false false apart no_default other =
        ap (with_part (member_at k graphs)) (node_at-put k m.0 _ nodes false apart)
        ∙ ap (λ o. with_part o (node_at k nodes)) (sym (at_later k m graphs apart))

-- Graphs in form: nodes that are objects and ascend.
pub nodes_are_objects : (nodes : Pairs) → AllByRecursion IsNodeInOrder nodes → AllByRecursion IsObject nodes
nodes_are_objects [] all = tt
nodes_are_objects (m ∷ nodes) all = (by_node m all.0, nodes_are_objects nodes all.1)
  where
    by_node : (m : List ℕ × Tree) → IsNodeInOrder m → IsObject m
    by_node (k, object ms) is = tt
    by_node (k, _) is = absurd is

pub record IsOrdered (nodes : Pairs) : Type 0 where
  pub ascend : AreAscending nodes
  pub each : AllByRecursion IsNodeInOrder nodes

pub graph_is_ordered : (g : List ℕ) (graphs : Pairs) → AllByRecursion IsGraphInOrder graphs → IsOrdered (object_in (member_at g graphs))
graph_is_ordered g [] all = record { ascend = ascending_nil; each = tt }
graph_is_ordered g (m ∷ graphs) all = by_test (bytes_eq g m.0) refl (graph_is_ordered g graphs all.1)
  where
    by_graph : (m : List ℕ × Tree) → IsGraphInOrder m → IsOrdered (object_in (Some m.1))
    by_graph (k, object ms) is = record { ascend = is.0; each = is.1 }
    by_graph (k, _) is = absurd is

    by_test : (b : Bool) → bytes_eq g m.0 ≡ b → IsOrdered (object_in (member_at g graphs)) → IsOrdered (object_in (member_at g (m ∷ graphs)))
    by_test true same rest = subst (λ o. IsOrdered (object_in o)) (sym (at_first g m graphs same)) (by_graph m all.0)
    by_test false apart rest = subst (λ o. IsOrdered (object_in o)) (sym (at_later g m graphs apart)) rest

-- The members of a node, or those of a new one.
abbrev pub contents : List ℕ → List ℕ → Pairs → Pairs
contents g id graphs = node_at id (object_in (member_at g graphs))

pub record SameContents (graphs others : Pairs) : Type 0 where
  pub graph : (g : List ℕ) → is_some (member_at g graphs) ≡ is_some (member_at g others)
  pub node : (g id : List ℕ) → contents g id graphs ≡ contents g id others

pub same_flattened : (graphs others : Pairs) → IsInForm graphs → IsInForm others → SameContents graphs others → flatten graphs ≡ flatten others
same_flattened graphs others form other_form same =
    same_nodes_of (graphs_into graphs (object_in (member_at default_graph graphs))) (graphs_into others (object_in (member_at default_graph others)))
    (graphs_into_ascend graphs _ nodes.ascend) (graphs_into_ascend others _ other_nodes.ascend)
    (graphs_into_objects graphs _ (nodes_are_objects _ nodes.each)) (graphs_into_objects others _ (nodes_are_objects _ other_nodes.each))
    (λ k.
    node_at-graphs_into k graphs (object_in (member_at default_graph graphs)) form.ascend
    ∙ ap (with_part (part_at k graphs)) (same.node default_graph k)
    ∙ same_part k
    ∙ sym (node_at-graphs_into k others (object_in (member_at default_graph others)) other_form.ascend))
  where
    nodes : IsOrdered (object_in (member_at default_graph graphs))
    nodes = graph_is_ordered default_graph graphs form.each

    other_nodes : IsOrdered (object_in (member_at default_graph others))
    other_nodes = graph_is_ordered default_graph others other_form.each

    same_graph : (k : List ℕ) → nodes_of (object_in (member_at k graphs)) ≡ nodes_of (object_in (member_at k others))
    same_graph k =
        let left = graph_is_ordered k graphs form.each in
        let right = graph_is_ordered k others other_form.each in
        same_nodes_of (object_in (member_at k graphs)) (object_in (member_at k others)) left.ascend right.ascend (nodes_are_objects _ left.each) (nodes_are_objects _ right.each) (same.node k)

    by_found : (o p : Option Tree) (base : Pairs) → is_some o ≡ is_some p → nodes_of (object_in o) ≡ nodes_of (object_in p) → with_part o base ≡ with_part p base
    by_found (Some t) (Some u) base there is = ap (λ l. put graph_key (array (trees_of l)) base) is
    by_found None None base there is = refl
    by_found (Some t) None base there is = absurd (cc)
    by_found None (Some u) base there is = absurd (cc)

    same_part : (k : List ℕ) → with_part (part_at k graphs) (contents default_graph k others) ≡ with_part (part_at k others) (contents default_graph k others)
    same_part k = by_test (bytes_eq k default_graph)
      where
        by_test : (b : Bool) → with_part (if b then None else member_at k graphs) (contents default_graph k others) ≡ with_part (if b then None else member_at k others) (contents default_graph k others)
        by_test true = refl
        by_test false = by_found (member_at k graphs) (member_at k others) (contents default_graph k others) (same.graph k) (same_graph k)
