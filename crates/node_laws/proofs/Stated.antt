-- A node map has what is stated in the document.
use Rattle.std.proofs.Common.{◌≡◌, ℕ, List, [], ◌∷◌, ◌++◌, Bool, true, false, cond, ◌&&◌, ◌||◌, not, if◌then◌else◌, Option, Some, None, is_some, refl, sym, ap, ap₂, ◌∙◌, subst, append_assoc, Err, ◌↔◌}
use Rattle.std.proofs.lemmas.List.{append-nil}
use Rattle.std.proofs.lemmas.List.Folds.{list_any-append}
use Rattle.std.specs.Option.{option_map}
use Rattle.std.specs.Str.{bytes_eq}
use Rattle.std.specs.List.{list_any, flat_map}
use Rattle.ld_model.specs.Tree.{Tree, text, trees_of, member_list-members_of, is_empty}
use Rattle.ld_model.specs.Keys.{default_graph}
use Rattle.ld_model.specs.NodeMap.{reference}
use Rattle.ld_model.proofs.Puts.{bytes_eq-exact}
use Rattle.node_model.specs.Maps.{at}
use Rattle.node_model.specs.Labels.{Labels, no_labels, named, id_or_new}
use Rattle.node_model.specs.NodeMap.{Node, Graph, Graphs, new_node, node_or_new, graph_or_new, graph_in, node_in, entries_in, on_graph, with_node, on_node, list_object, with_type, with_index, Conflict, on_entries, told}
use Rattle.node_model.specs.AsTrees.{graph_pairs, node_members}
use Rattle.node_model.specs.Generating.{State, Generated, or_conflict, generating, index_by, empty, outcome, walked, generate}
use Rattle.node_model.specs.Walk.{nowhere}
use Rattle.node_laws.specs.Stated.{IsAsSaid, IsAsStated, Said, Statement, Stating, a_property, a_type, an_entry, an_index, conflict_by, conflict_with, conflicts_after, conflicts_in, first, indexes_said, is_of_graph, it_is, object_in, of_graph, of_node, once_by, said_by, said_of, stated_in, stating, types_said}
use Rattle.node_laws.specs.Laws.{ConflictsAreThoseStated, NodeMapsAreAsStated}
use Rattle.node_laws.proofs.Likeness.{Likeness, Pairwise, Reach, AnswerAlike, lasts_here}
use Rattle.node_laws.proofs.Alike.{all_beside}
use Rattle.node_laws.proofs.Maps.{at_first, at_later, all-at}
use Rattle.node_laws.proofs.Shape.{IsNode, IsGraph, IsMap, graph_in_is, walked_is}
use Rattle.node_laws.proofs.DueForm.{given}
use Rattle.node_laws.proofs.Changes.{graph_stands, graph_kept, at-on_node}
use Rattle.node_laws.proofs.SaidOfNode.{index_said, said_to, all_said, told_of, told_of-append, told_of-some, types_are, index_is, property_is, entries_are}
use Rattle.node_laws.proofs.ReadOut.{node_tree, property_there, entries_there, types_there, typed_there, index_there, graph_there, node_there}

-- These graphs have what these statements say.
pub record Holds (stated : List Statement) (graphs : Graphs) : Type 0 where
  pub graph : (h : List ℕ) → is_some (at h graphs) ≡ (bytes_eq h default_graph || list_any (is_of_graph h) stated)
  pub node : (h k : List ℕ) → at k (graph_in h graphs) ≡ told_of (said_of h k stated) None

-- One more statement.
pub said_of-last : (h k : List ℕ) (stated : List Statement) (x : Statement) → said_of h k (stated ++ x ∷ []) ≡ said_of h k stated ++ said_by h k x
said_of-last h k [] x = append-nil (said_by h k x)
said_of-last h k (y ∷ stated) x = ap (λ l. said_by h k y ++ l) (said_of-last h k stated x) ∙ sym (append_assoc (said_by h k y) (said_of h k stated) (said_by h k x))

told-last : (h k : List ℕ) (stated : List Statement) (x : Statement) → told_of (said_of h k (stated ++ x ∷ [])) None ≡ told_of (said_by h k x) (told_of (said_of h k stated) None)
told-last h k stated x = ap (λ ds. told_of ds None) (said_of-last h k stated x) ∙ told_of-append (said_of h k stated) (said_by h k x) None

graph-last : (h g : List ℕ) (stated : List Statement) (x : Statement) → is_of_graph h x ≡ bytes_eq h g
    → (bytes_eq h g || (bytes_eq h default_graph || list_any (is_of_graph h) stated)) ≡ (bytes_eq h default_graph || list_any (is_of_graph h) (stated ++ x ∷ []))
graph-last h g stated x is =
    turned (bytes_eq h g) (bytes_eq h default_graph) (list_any (is_of_graph h) stated)
    ∙ ap (λ b. bytes_eq h default_graph || (list_any (is_of_graph h) stated || (b || false))) (sym is)
    ∙ ap (λ b. bytes_eq h default_graph || b) (sym (list_any-append (is_of_graph h) stated (x ∷ [])))
  where
    turned : (a b c : Bool) → (a || (b || c)) ≡ (b || (c || (a || false)))
    turned true true true = refl
    turned true true false = refl
    turned true false true = refl
    turned true false false = refl
    turned false true true = refl
    turned false true false = refl
    turned false false true = refl
    turned false false false = refl

-- A graph that is stated, and something that is said of a node.
graph_step : (g : List ℕ) (stated : List Statement) (graphs : Graphs) → Holds stated graphs → Holds (stated ++ of_graph g ∷ []) (on_graph g (λ nodes. nodes) graphs)
graph_step g stated graphs is = record {
  graph = λ h. graph_stands h g (λ nodes. nodes) graphs ∙ ap (λ b. bytes_eq h g || b) (is.graph h) ∙ graph-last h g stated (of_graph g) refl;
  node = λ h k. graph_kept h k g graphs ∙ is.node h k ∙ sym (told-last h k stated (of_graph g));
}

node_step : (g id : List ℕ) (d : Said) (change : Node → Node) (stated : List Statement) (graphs : Graphs) → ((n : Node) → change n ≡ said_to d n) → Holds stated graphs
    → Holds (stated ++ of_node g id d ∷ []) (on_node g id change graphs)
node_step g id d change stated graphs says is = record {
  graph = λ h. graph_stands h g (with_node id change) graphs ∙ ap (λ b. bytes_eq h g || b) (is.graph h) ∙ graph-last h g stated (of_node g id d) refl;
  node = λ h k.
      at-on_node h k g id change graphs
      ∙ by_test (bytes_eq h g && bytes_eq k id) (at k (graph_in h graphs))
      ∙ ap (told_of (said_by h k (of_node g id d))) (is.node h k)
      ∙ sym (told-last h k stated (of_node g id d));
}
  where
    by_test : (b : Bool) (o : Option Node) → cond b (Some (change (node_or_new o))) o ≡ told_of (if b then (d ∷ []) else []) o
    by_test true o = ap Some (says (node_or_new o))
    by_test false o = refl

-- A further index changes nothing. The node has one, so it is there.
there_by : (o : Option Node) (i : List ℕ) → (node_or_new o).index ≡ Some i → (n : Node) × (o ≡ Some n) × (n.index ≡ Some i)
there_by (Some n) i is = (n, refl, is)
there_by None i is = absurd (cc)

graph_by : (o : Option Graph) (id : List ℕ) (n : Node) → at id (graph_or_new o) ≡ Some n → is_some o ≡ true
graph_by (Some nodes) id n is = refl
graph_by None id n is = absurd (cc)

later_index : (g id index earlier : List ℕ) (stated : List Statement) (graphs : Graphs) → (node_in id (graph_in g graphs)).index ≡ Some earlier → Holds stated graphs → Holds (stated ++ of_node g id (an_index index) ∷ []) graphs
later_index g id index earlier stated graphs has is = record {
  graph = λ h. known h (bytes_eq h g) refl ∙ ap (λ b. bytes_eq h g || b) (is.graph h) ∙ graph-last h g stated (of_node g id (an_index index)) refl;
  node = λ h k.
      unchanged h k (bytes_eq h g) (bytes_eq k id) refl refl
      ∙ ap (told_of (said_by h k (of_node g id (an_index index)))) (is.node h k)
      ∙ sym (told-last h k stated (of_node g id (an_index index)));
}
  where
    there : (n : Node) × (at id (graph_in g graphs) ≡ Some n) × (n.index ≡ Some earlier)
    there = there_by (at id (graph_in g graphs)) earlier has

    known : (h : List ℕ) (b : Bool) → bytes_eq h g ≡ b → is_some (at h graphs) ≡ (b || is_some (at h graphs))
    known h true same = ap (λ x. is_some (at x graphs)) (bytes_eq-exact h g same) ∙ graph_by (at g graphs) id there.0 there.1
    known h false apart = refl

    same_node : (o : Option Node) → o ≡ Some there.0 → o ≡ told_of (an_index index ∷ []) o
    same_node o is =
        is
        ∙ ap Some (ap (λ o. index_said o index there.0) (sym there.2))
        ∙ ap (told_of (an_index index ∷ [])) (sym is)

    unchanged : (h k : List ℕ) (b c : Bool) → bytes_eq h g ≡ b → bytes_eq k id ≡ c → at k (graph_in h graphs) ≡ told_of (if b && c then (an_index index ∷ []) else []) (at k (graph_in h graphs))
    unchanged h k true true same_graph same_id =
        same_node (at k (graph_in h graphs)) (ap₂ (λ x y. at y (graph_in x graphs)) (bytes_eq-exact h g same_graph) (bytes_eq-exact k id same_id) ∙ there.1)
    unchanged h k true false same_graph other = refl
    unchanged h k false c other is = refl

first_index : (index : List ℕ) (stated : List Statement) (g id : List ℕ) (graphs : Graphs) → (node_in id (graph_in g graphs)).index ≡ None → Holds stated graphs
    → Holds (stated ++ of_node g id (an_index index) ∷ []) (on_node g id (with_index index) graphs)
first_index index stated g id graphs none is = record {
  graph = λ h. graph_stands h g (with_node id (with_index index)) graphs ∙ ap (λ b. bytes_eq h g || b) (is.graph h) ∙ graph-last h g stated (of_node g id (an_index index)) refl;
  node = λ h k.
      at-on_node h k g id (with_index index) graphs
      ∙ by_tests h k (bytes_eq h g) (bytes_eq k id) refl refl
      ∙ ap (told_of (said_by h k (of_node g id (an_index index)))) (is.node h k)
      ∙ sym (told-last h k stated (of_node g id (an_index index)));
}
  where
    set : (o : Option Node) → (node_or_new o).index ≡ None → Some (with_index index (node_or_new o)) ≡ told_of (an_index index ∷ []) o
    set o is = ap Some (ap (λ i. index_said i index (node_or_new o)) (sym is))

    by_tests : (h k : List ℕ) (b c : Bool) → bytes_eq h g ≡ b → bytes_eq k id ≡ c
        → cond (b && c) (Some (with_index index (node_in k (graph_in h graphs)))) (at k (graph_in h graphs)) ≡ told_of (if b && c then (an_index index ∷ []) else []) (at k (graph_in h graphs))
    by_tests h k true true same_graph same_id =
        set (at k (graph_in h graphs)) (ap₂ (λ x y. (node_in y (graph_in x graphs)).index) (bytes_eq-exact h g same_graph) (bytes_eq-exact k id same_id) ∙ none)
    by_tests h k true false same_graph other = refl
    by_tests h k false c other is = refl

index_step : (o : Option (List ℕ)) (g id index : List ℕ) (s : State) (stated : List Statement) → (node_in id (graph_in g s.graphs)).index ≡ o → Holds stated s.graphs → Holds (stated ++ of_node g id (an_index index) ∷ []) (index_by o g id index s).graphs
index_step None g id index s stated none is = first_index index stated g id s.graphs none is
index_step (Some earlier) g id index s stated has is = by_test (bytes_eq earlier index) s _ (later_index g id index earlier stated s.graphs has is) (later_index g id index earlier stated s.graphs has is)
  where
    by_test : (b : Bool) (r u : State) → Holds (stated ++ of_node g id (an_index index) ∷ []) r.graphs → Holds (stated ++ of_node g id (an_index index) ∷ []) u.graphs → Holds (stated ++ of_node g id (an_index index) ∷ []) (if b then r else u).graphs
    by_test true r u is other = is
    by_test false r u is other = other

index_labels : (o : Option (List ℕ)) (g id index : List ℕ) (s : State) → (index_by o g id index s).labels ≡ s.labels
index_labels None g id index s = refl
index_labels (Some earlier) g id index s = by_test (bytes_eq earlier index) s _ refl refl
  where
    by_test : (b : Bool) (r u : State) → r.labels ≡ s.labels → u.labels ≡ s.labels → (if b then r else u).labels ≡ s.labels
    by_test true r u is other = is
    by_test false r u is other = other

-- Conflicts, with one more statement.
conflicts_after-last : (before xs : List Statement) (x : Statement) → conflicts_after before (xs ++ x ∷ []) ≡ conflicts_after before xs ++ conflict_with (before ++ xs) x
conflicts_after-last before [] x = append-nil (conflict_with before x) ∙ ap (λ l. conflict_with l x) (sym (append-nil before))
conflicts_after-last before (y ∷ xs) x =
    ap (λ l. conflict_with before y ++ l) (conflicts_after-last (before ++ y ∷ []) xs x ∙ ap (λ l. conflicts_after (before ++ y ∷ []) xs ++ conflict_with l x) (append_assoc before (y ∷ []) xs))
    ∙ sym (append_assoc (conflict_with before y) (conflicts_after (before ++ y ∷ []) xs) (conflict_with (before ++ y ∷ xs) x))

-- This is the first conflict of these statements.
abbrev IsFirst : List Statement → Option Conflict → Type 0
IsFirst stated o = o ≡ first (conflicts_in stated)

without_conflict : (stated : List Statement) (x : Statement) (o : Option Conflict) → conflict_with stated x ≡ [] → IsFirst stated o → IsFirst (stated ++ x ∷ []) o
without_conflict stated x o none is =
    is
    ∙ ap first (sym (append-nil (conflicts_in stated)))
    ∙ ap (λ l. first (conflicts_in stated ++ l)) (sym none)
    ∙ ap first (sym (conflicts_after-last [] stated x))

with_conflict : (stated : List Statement) (x : Statement) (o : Option Conflict) (c : Conflict) → conflict_with stated x ≡ c ∷ [] → IsFirst stated o → IsFirst (stated ++ x ∷ []) (or_conflict o c)
with_conflict stated x o c one is =
    ap (λ o. or_conflict o c) is
    ∙ by_first (conflicts_in stated)
    ∙ ap (λ l. first (conflicts_in stated ++ l)) (sym one)
    ∙ ap first (sym (conflicts_after-last [] stated x))
  where
    by_first : (cs : List Conflict) → or_conflict (first cs) c ≡ first (cs ++ c ∷ [])
    by_first [] = refl
    by_first (d ∷ cs) = refl

-- A node is made of what is said of it.
pub node_stated : (g id : List ℕ) (stated : List Statement) (graphs : Graphs) → Holds stated graphs → node_in id (graph_in g graphs) ≡ all_said (said_of g id stated) new_node
node_stated g id stated graphs is = ap node_or_new (is.node g id) ∙ by_said (said_of g id stated)
  where
    by_said : (ds : List Said) → node_or_new (told_of ds None) ≡ all_said ds new_node
    by_said [] = refl
    by_said (d ∷ ds) = ap node_or_new (told_of-some ds (said_to d new_node))

-- The index of a node is the first one that was said of it.
index_stated : (g id : List ℕ) (stated : List Statement) (graphs : Graphs) → Holds stated graphs → (node_in id (graph_in g graphs)).index ≡ first (flat_map indexes_said (said_of g id stated))
index_stated g id stated graphs is = ap (λ (n : Node). n.index) (node_stated g id stated graphs is) ∙ index_is (said_of g id stated)

index_conflict : (o : Option (List ℕ)) (g id index : List ℕ) (s : State) (stated : List Statement) → o ≡ first (flat_map indexes_said (said_of g id stated)) → IsFirst stated s.conflict
    → IsFirst (stated ++ of_node g id (an_index index) ∷ []) (index_by o g id index s).conflict
index_conflict None g id index s stated none is = without_conflict stated (of_node g id (an_index index)) s.conflict (ap (λ o. conflict_by o id index) (sym none)) is
index_conflict (Some earlier) g id index s stated has is = by_test (bytes_eq earlier index) refl
  where
    both_ways : (b : Bool) → bytes_eq earlier index ≡ b → conflict_with stated (of_node g id (an_index index)) ≡ (if b then [] else (record { node = id; first = earlier; second = index } ∷ []))
    both_ways b test = ap (λ o. conflict_by o id index) (sym has) ∙ ap (λ b. if b then [] else (record { node = id; first = earlier; second = index } ∷ [])) test

    by_test : (b : Bool) → bytes_eq earlier index ≡ b
        → IsFirst (stated ++ of_node g id (an_index index) ∷ []) (if b then s else record { graphs = s.graphs; labels = s.labels; conflict = or_conflict s.conflict (record { node = id; first = earlier; second = index }) }).conflict
    by_test true same = without_conflict stated (of_node g id (an_index index)) s.conflict (both_ways true same) is
    by_test false other = with_conflict stated (of_node g id (an_index index)) s.conflict (record { node = id; first = earlier; second = index }) (both_ways false other) is

-- What is kept of the two states: the same labels, what is stated, and the first conflict.
record Told (s : State) (t : Stating) : Type 0 where
  labels : s.labels ≡ t.labels
  holds : Holds t.stated s.graphs
  conflict : IsFirst t.stated s.conflict

-- The walk that generates beside the walk that notes statements: the same labels, the same names, the same entries.
abbrev told_alike : Likeness State (List ℕ) Tree Stating (List ℕ) Tree
told_alike = record { states = Told; names = λ s n m. n ≡ m; properties = λ s n m. n ≡ m; entries = λ s e f. e ≡ f }

reach : (s r : State) (t : Stating) → Told r t → Reach told_alike s r t
reach s r t is = record { states = is; lasts = record { names = λ n m is. is; properties = λ n m is. is; entries = λ e f is. is } }

pub same_lists : (es fs : List Tree) → Pairwise (λ e f. e ≡ f) es fs → es ≡ fs
same_lists [] [] is = refl
same_lists (e ∷ es) (f ∷ fs) is = λ i. is.0 i ∷ same_lists es fs is.1 i
same_lists [] (f ∷ fs) is = absurd is
same_lists (e ∷ es) [] is = absurd is

-- After a step that states this, in these words or in others that are equal.
stated : (s r : State) (t u : Stating) (x y : Statement) → x ≡ y → u.stated ≡ t.stated ++ y ∷ [] → r.labels ≡ u.labels → Holds (t.stated ++ x ∷ []) r.graphs → IsFirst (t.stated ++ x ∷ []) r.conflict → Reach told_alike s r u
stated s r t u x y same is labels holds conflict = reach s r u (record {
  labels = labels;
  holds = subst (λ l. Holds l r.graphs) (ap (λ z. t.stated ++ z ∷ []) same ∙ sym is) holds;
  conflict = subst (λ l. IsFirst l r.conflict) (ap (λ z. t.stated ++ z ∷ []) same ∙ sym is) conflict;
})

steps_tell : AnswerAlike told_alike generating stating
steps_tell = record {
  named = λ x s t is.
      let same : named x s.labels ≡ named x t.labels = ap (named x) is.labels in
      let name : (named x s.labels).0 ≡ (named x t.labels).0 = ap (λ (p : List ℕ × Labels). p.0) same in
      (reach s _ _ (record { labels = ap (λ (p : List ℕ × Labels). p.1) same; holds = is.holds; conflict = is.conflict }), name, λ apart. name);
  node = λ g h id s t graph is.
      let same : id_or_new id s.labels ≡ id_or_new id t.labels = ap (id_or_new id) is.labels in
      let name : (id_or_new id s.labels).0 ≡ (id_or_new id t.labels).0 = ap (λ (p : List ℕ × Labels). p.0) same in
      let x = of_node g (id_or_new id s.labels).0 it_is in (
        stated s _ t _ x _ (λ i. of_node (graph i) (name i) it_is) refl (ap (λ (p : List ℕ × Labels). p.1) same)
            (node_step g (id_or_new id s.labels).0 it_is (λ n. n) t.stated s.graphs (λ n. refl) is.holds) (without_conflict t.stated x s.conflict refl is.conflict),
        name,
      );
  property = λ g h n m x s t apart graph id is.
      let same : named x s.labels ≡ named x t.labels = ap (named x) is.labels in
      let name : (named x s.labels).0 ≡ (named x t.labels).0 = ap (λ (p : List ℕ × Labels). p.0) same in
      let y = of_node g n (a_property (named x s.labels).0) in (
        stated s _ t _ y _ (λ i. of_node (graph i) (id i) (a_property (name i))) refl (ap (λ (p : List ℕ × Labels). p.1) same)
            (node_step g n (a_property (named x s.labels).0) (on_entries (named x s.labels).0 (λ es. es)) t.stated s.graphs (λ n. refl) is.holds) (without_conflict t.stated y s.conflict refl is.conflict),
        name,
      );
  graph = λ g h s t graph is.
      stated s _ t _ (of_graph g) (of_graph h) (ap of_graph graph) refl is.labels (graph_step g t.stated s.graphs is.holds) (without_conflict t.stated (of_graph g) s.conflict refl is.conflict);
  value = λ ms s is. refl;
  reference = λ n m s is. ap reference is;
  list = λ es fs s is. ap list_object (same_lists es fs is);
  add = λ g h n m p q e f s t graph id property entry is.
      let x = of_node g n (an_entry p e) in
      stated s _ t _ x _ (λ i. of_node (graph i) (id i) (an_entry (property i) (entry i))) refl is.labels
      (node_step g n (an_entry p e) (on_entries p (told e)) t.stated s.graphs (λ n. refl) is.holds) (without_conflict t.stated x s.conflict refl is.conflict);
  append = λ g h n m p q es fs s t graph id property entries is.
      let same = same_lists es fs entries in
      let x = of_node g n (an_entry p (list_object es)) in
      stated s _ t _ x _ (λ i. of_node (graph i) (id i) (an_entry (property i) (list_object (same i)))) refl is.labels
      (node_step g n (an_entry p (list_object es)) (on_entries p (told (list_object es))) t.stated s.graphs (λ n. refl) is.holds) (without_conflict t.stated x s.conflict refl is.conflict);
  type_ = λ g h n m x y s t graph id name is.
      let z = of_node g n (a_type x) in
      stated s _ t _ z _ (λ i. of_node (graph i) (id i) (a_type (name i))) refl is.labels
      (node_step g n (a_type x) (with_type x) t.stated s.graphs (λ n. refl) is.holds) (without_conflict t.stated z s.conflict refl is.conflict);
  index = λ g h n m x s t graph id is.
      let o = (node_in n (graph_in g s.graphs)).index in
      stated s (index_by o g n x s) t _ (of_node g n (an_index x)) _ (λ i. of_node (graph i) (id i) (an_index x)) refl (index_labels o g n x s ∙ is.labels)
      (index_step o g n x s t.stated refl is.holds) (index_conflict o g n x s t.stated (index_stated g n t.stated s.graphs is.holds) is.conflict);
}

empty_holds : Holds [] empty.graphs
empty_holds = record { graph = λ h. by_name h; node = λ h k. none h k }
  where
    by_name : (h : List ℕ) → is_some (at h empty.graphs) ≡ (bytes_eq h default_graph || false)
    by_name h = by_test (bytes_eq h default_graph) refl
      where
        by_test : (b : Bool) → bytes_eq h default_graph ≡ b → is_some (at h empty.graphs) ≡ (b || false)
        by_test true same = ap is_some (at_first {V = Graph} h (default_graph, []) [] same)
        by_test false apart = ap is_some (at_later {V = Graph} h (default_graph, []) [] apart)

    none : (h k : List ℕ) → at k (graph_in h empty.graphs) ≡ None
    none h k = by_test (bytes_eq h default_graph) refl
      where
        by_test : (b : Bool) → bytes_eq h default_graph ≡ b → at k (graph_in h empty.graphs) ≡ None
        by_test true same = ap (λ o. at k (graph_or_new o)) (at_first {V = Graph} h (default_graph, []) [] same)
        by_test false apart = ap (λ o. at k (graph_or_new o)) (at_later {V = Graph} h (default_graph, []) [] apart)

pub walked_told : (ts : List Tree) → Holds (stated_in ts) (walked ts).graphs × ((walked ts).conflict ≡ first (conflicts_in (stated_in ts)))
walked_told ts =
    let is = (all_beside told_alike generating stating steps_tell default_graph default_graph nowhere nowhere (trees_of ts) empty (record { state = empty; items = [] }) (record { state = record { labels = no_labels; stated = [] }; items = [] }) refl tt
    (record { states = record { labels = refl; holds = empty_holds; conflict = refl }; gathered = tt; lasts = lasts_here told_alike empty })).states in
    (is.holds, is.conflict)

-- As trees.
some_once : (ts : List (List ℕ)) → not (is_empty (once_by bytes_eq ts)) ≡ not (is_empty ts)
some_once [] = refl
some_once (t ∷ ts) = refl

pub node_as_said : (id : List ℕ) (ds : List Said) (n : Node) → IsNode n → n ≡ all_said ds new_node → IsAsSaid ds (node_members id n)
node_as_said id ds n node is = record {
  types = types_there id n node ∙ ap (λ (n : Node). n.types) is ∙ types_are ds;
  typed = typed_there id n node ∙ ap (λ (n : Node). not (is_empty n.types)) is ∙ ap (λ ts. not (is_empty ts)) (types_are ds) ∙ some_once (flat_map types_said ds);
  index = index_there id n node ∙ ap (λ (n : Node). option_map text n.index) is ∙ ap (option_map text) (index_is ds);
  property = λ p apart. property_there id n node p apart ∙ ap (λ (n : Node). is_some (at p n.properties)) is ∙ property_is p ds;
  entries = λ p apart. entries_there id n node p apart ∙ ap (λ (n : Node). entries_in p n.properties) is ∙ entries_are p ds;
}

nothing_said : IsAsSaid [] []
nothing_said = record { types = refl; typed = refl; index = refl; property = λ p apart. refl; entries = λ p apart. refl }

told_some : (d : Said) (ds : List Said) → told_of (d ∷ ds) None ≡ Some (all_said (d ∷ ds) new_node)
told_some d ds = told_of-some ds (said_to d new_node)

module _ (id : List ℕ) (nodes : Graph) (graph : IsGraph nodes) where
  node_stands : (ds : List Said) → at id nodes ≡ told_of ds None → is_some (option_map (node_tree id) (at id nodes)) ≡ not (is_empty ds)
  node_stands [] is = ap (λ o. is_some (option_map (node_tree id) o)) is
  node_stands (d ∷ ds) is = ap (λ o. is_some (option_map (node_tree id) o)) (is ∙ told_some d ds)

  node_is_said : (ds : List Said) → at id nodes ≡ told_of ds None → IsAsSaid ds (object_in (option_map (node_tree id) (at id nodes)))
  node_is_said [] is = subst (λ o. IsAsSaid [] (object_in (option_map (node_tree id) o))) (sym is) nothing_said
  node_is_said (d ∷ ds) is =
      let n = all_said (d ∷ ds) new_node in
      let there : at id nodes ≡ Some n = is ∙ told_some d ds in
      subst (λ o. IsAsSaid (d ∷ ds) (object_in (option_map (node_tree id) o))) (sym there)
      (subst (IsAsSaid (d ∷ ds)) (sym (member_list-members_of (node_members id n))) (node_as_said id (d ∷ ds) n (all-at (λ e. IsNode e.1) id nodes n graph.each there) refl))

map_as_stated : (stated : List Statement) (graphs : Graphs) → IsMap graphs → Holds stated graphs → IsAsStated stated (graph_pairs graphs)
map_as_stated stated graphs map is = record {
  graph = λ g. graph_there g graphs ∙ is.graph g;
  node = λ g id. ap is_some (node_there g id graphs) ∙ node_stands id (graph_in g graphs) (graph_in_is g graphs map) (said_of g id stated) (is.node g id);
  said = λ g id. subst (λ o. IsAsSaid (said_of g id stated) (object_in o)) (sym (node_there g id graphs)) (node_is_said id (graph_in g graphs) (graph_in_is g graphs map) (said_of g id stated) (is.node g id));
}

pub node_maps_are_as_stated : NodeMapsAreAsStated
node_maps_are_as_stated ts m is =
    subst (λ (m : Generated). IsAsStated (stated_in ts) m.graphs) (given (walked ts).conflict (walked ts) m is) (map_as_stated (stated_in ts) (walked ts).graphs (walked_is ts) (walked_told ts).0)

failed : (o : Option Conflict) (s : State) (c : Conflict) → (outcome o s ≡ Err c) ↔ (o ≡ Some c)
failed (Some d) s c = ((λ is. cc), (λ is. cc))
failed None s c = ((λ is. absurd (cc)), (λ is. absurd (cc)))

pub conflicts_are_those_stated : ConflictsAreThoseStated
conflicts_are_those_stated ts c =
    subst (λ o. (generate ts ≡ Err c) ↔ (o ≡ Some c)) (walked_told ts).1 (failed (walked ts).conflict (walked ts) c)
