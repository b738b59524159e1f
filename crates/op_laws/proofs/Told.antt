-- The node map that operations make has what they tell.
use Rattle.std.proofs.Common.{◌≡◌, ℕ, List, [], ◌∷◌, cond, Bool, true, false, ◌&&◌, ◌||◌, if◌then◌else◌, Option, Some, None, refl, sym, ap, ◌∙◌, subst}
use Rattle.std.specs.Prelude.{is_some}
use Rattle.std.specs.Str.{bytes_eq}
use Rattle.std.specs.List.{list_any}
use Rattle.std.proofs.lemmas.Map.Text.{is_eq-slice_cmp}
use Rattle.ld_model.specs.Tree.{Tree}
use Rattle.ld_model.specs.Keys.{default_graph}
use Rattle.ld_model.proofs.Puts.{bytes_eq-exact}
use Rattle.node_model.specs.Maps.{at}
use Rattle.node_model.specs.NodeMap.{Node, Graph, new_node, graph_or_new, graph_in, node_in, entries_in, list_object, told, on_entries, with_type, with_index, with_node}
use Rattle.node_model.specs.Generating.{State, index_by, empty}
use Rattle.op_model.specs.Names.{Name}
use Rattle.op_model.specs.Ops.{Op, use_label, ensure_graph, ensure_node, ensure_property, add_entry, append_list, add_type, set_index}
use Rattle.op_model.specs.Running.{used, label_in, entry_in, entries_in as items_in, uses_of_all, labelled, apply, apply_all, Run}
use Rattle.op_laws.specs.Told.{is_of_graph, is_node, is_of_node, index_or, node_changed, node_told, is_property, entries_changed, entries_told, AreTold}
use Rattle.op_laws.specs.Laws.{NodeMapsAreTold}
use Rattle.op_laws.proofs.Used.{or_false}
use Rattle.op_laws.proofs.Read.{entries_after, graph_there, node_in_after, node_there, same_graph, indexed_is_there}
use Rattle.op_laws.proofs.Numbered.{labels_can_be_numbered_first}

same_either_way : {X : Type 0} (b : Bool) (x : X) → (if b then x else x) ≡ x
same_either_way true x = refl
same_either_way false x = refl

-- A conflict leaves the graphs as they are.
graphs_stay : (first g id index : List ℕ) (s : State) → (index_by (Some first) g id index s).graphs ≡ s.graphs
graphs_stay first g id index s = by_test (bytes_eq first index) s _ refl
  where
    by_test : (b : Bool) (r u : State) → u.graphs ≡ r.graphs → (if b then r else u).graphs ≡ r.graphs
    by_test true r u same = refl
    by_test false r u same = same

-- Which graphs there are.
module _ (names : List Name) (g : List ℕ) where
  graph_indexed : (o : Option (List ℕ)) (h id index : List ℕ) (s : State) → (node_in id (graph_in h s.graphs)).index ≡ o → is_some (at g (index_by o h id index s).graphs) ≡ (bytes_eq g h || is_some (at g s.graphs))
  graph_indexed None h id index s is = graph_there g h (with_node id (with_index index)) s.graphs
  graph_indexed (Some first) h id index s is = ap (λ graphs. is_some (at g graphs)) (graphs_stay first h id index s) ∙ by_test (bytes_eq g h) refl
    where
      by_test : (b : Bool) → bytes_eq g h ≡ b → is_some (at g s.graphs) ≡ (b || is_some (at g s.graphs))
      by_test true same = ap (λ x. is_some (at x s.graphs)) (bytes_eq-exact g h same) ∙ (indexed_is_there h id first s.graphs is).0
      by_test false apart = refl

  graph_told : (o : Op) (s : State) → is_some (at g (apply names o s).graphs) ≡ (is_of_graph names g o || is_some (at g s.graphs))
  graph_told (use_label n) s = refl
  graph_told (ensure_graph h) s = graph_there g (label_in names h) (λ nodes. nodes) s.graphs
  graph_told (ensure_node h n) s = graph_there g (label_in names h) (with_node (label_in names n) (λ n. n)) s.graphs
  graph_told (ensure_property h n p) s = graph_there g (label_in names h) (with_node (label_in names n) (on_entries (label_in names p) (λ es. es))) s.graphs
  graph_told (add_entry h n p e) s = graph_there g (label_in names h) (with_node (label_in names n) (on_entries (label_in names p) (told (entry_in names e)))) s.graphs
  graph_told (append_list h n p es) s = graph_there g (label_in names h) (with_node (label_in names n) (on_entries (label_in names p) (told (list_object (items_in names es))))) s.graphs
  graph_told (add_type h n t) s = graph_there g (label_in names h) (with_node (label_in names n) (with_type (label_in names t))) s.graphs
  graph_told (set_index h n i) s = graph_indexed (node_in (label_in names n) (graph_in (label_in names h) s.graphs)).index (label_in names h) (label_in names n) i s refl

turned : (a b c : Bool) → (b || (a || c)) ≡ ((a || b) || c)
turned true true c = refl
turned true false c = refl
turned false b c = refl

graphs_told : (names : List Name) (g : List ℕ) (os : List Op) (s : State) → is_some (at g (apply_all names os s).graphs) ≡ (list_any (is_of_graph names g) os || is_some (at g s.graphs))
graphs_told names g [] s = refl
graphs_told names g (o ∷ os) s =
    graphs_told names g os (apply names o s)
    ∙ ap (λ b. list_any (is_of_graph names g) os || b) (graph_told names g o s)
    ∙ turned (is_of_graph names g o) (list_any (is_of_graph names g) os) (is_some (at g s.graphs))

-- Which nodes a graph has, and what each is.
module _ (names : List Name) (g id : List ℕ) where
  node_indexed : (o : Option (List ℕ)) (h n index : List ℕ) (s : State) → (node_in n (graph_in h s.graphs)).index ≡ o
      → is_some (at id (graph_in g (index_by o h n index s).graphs)) ≡ ((bytes_eq g h && bytes_eq id n) || is_some (at id (graph_in g s.graphs)))
  node_indexed None h n index s is = node_there g id h n (with_index index) s.graphs
  node_indexed (Some first) h n index s is = ap (λ graphs. is_some (at id (graph_in g graphs))) (graphs_stay first h n index s) ∙ by_tests (bytes_eq g h) (bytes_eq id n) refl refl
    where
      by_tests : (b c : Bool) → bytes_eq g h ≡ b → bytes_eq id n ≡ c → is_some (at id (graph_in g s.graphs)) ≡ ((b && c) || is_some (at id (graph_in g s.graphs)))
      by_tests true true graph node = (λ i. is_some (at (bytes_eq-exact id n node i) (graph_in (bytes_eq-exact g h graph i) s.graphs))) ∙ (indexed_is_there h n first s.graphs is).1
      by_tests true false graph node = refl
      by_tests false c graph node = refl

  there_told : (o : Op) (s : State) → is_some (at id (graph_in g (apply names o s).graphs)) ≡ (is_of_node names g id o || is_some (at id (graph_in g s.graphs)))
  there_told (use_label n) s = refl
  there_told (ensure_graph h) s = ap (λ nodes. is_some (at id nodes)) (same_graph g (label_in names h) s.graphs)
  there_told (ensure_node h n) s = node_there g id (label_in names h) (label_in names n) (λ n. n) s.graphs
  there_told (ensure_property h n p) s = node_there g id (label_in names h) (label_in names n) (on_entries (label_in names p) (λ es. es)) s.graphs
  there_told (add_entry h n p e) s = node_there g id (label_in names h) (label_in names n) (on_entries (label_in names p) (told (entry_in names e))) s.graphs
  there_told (append_list h n p es) s = node_there g id (label_in names h) (label_in names n) (on_entries (label_in names p) (told (list_object (items_in names es)))) s.graphs
  there_told (add_type h n t) s = node_there g id (label_in names h) (label_in names n) (with_type (label_in names t)) s.graphs
  there_told (set_index h n i) s = node_indexed (node_in (label_in names n) (graph_in (label_in names h) s.graphs)).index (label_in names h) (label_in names n) i s refl

  all_there : (os : List Op) (s : State) → is_some (at id (graph_in g (apply_all names os s).graphs)) ≡ (list_any (is_of_node names g id) os || is_some (at id (graph_in g s.graphs)))
  all_there [] s = refl
  all_there (o ∷ os) s =
      all_there os (apply names o s)
      ∙ ap (λ b. list_any (is_of_node names g id) os || b) (there_told o s)
      ∙ turned (is_of_node names g id o) (list_any (is_of_node names g id) os) (is_some (at id (graph_in g s.graphs)))

  content_indexed : (o : Option (List ℕ)) (h n index : List ℕ) (s : State) → (node_in n (graph_in h s.graphs)).index ≡ o
      → node_in id (graph_in g (index_by o h n index s).graphs) ≡ (if bytes_eq g h && bytes_eq id n then index_or (node_in id (graph_in g s.graphs)).index index (node_in id (graph_in g s.graphs)) else node_in id (graph_in g s.graphs))
  content_indexed o h n index s is = by_index o is ∙ by_tests (bytes_eq g h) (bytes_eq id n) refl refl
    where
      by_index : (o : Option (List ℕ)) → (node_in n (graph_in h s.graphs)).index ≡ o
          → node_in id (graph_in g (index_by o h n index s).graphs) ≡ (if bytes_eq g h && bytes_eq id n then index_or o index (node_in id (graph_in g s.graphs)) else node_in id (graph_in g s.graphs))
      by_index None is = node_in_after g id h n (with_index index) s.graphs
      by_index (Some first) is = ap (λ graphs. node_in id (graph_in g graphs)) (graphs_stay first h n index s) ∙ sym (same_either_way (bytes_eq g h && bytes_eq id n) (node_in id (graph_in g s.graphs)))

      by_tests : (b c : Bool) → bytes_eq g h ≡ b → bytes_eq id n ≡ c
          → (if b && c then index_or o index (node_in id (graph_in g s.graphs)) else node_in id (graph_in g s.graphs)) ≡ (if b && c then index_or (node_in id (graph_in g s.graphs)).index index (node_in id (graph_in g s.graphs)) else node_in id (graph_in g s.graphs))
      by_tests true true graph node =
          let same : o ≡ (node_in id (graph_in g s.graphs)).index = sym is ∙ (λ i. (node_in (sym (bytes_eq-exact id n node) i) (graph_in (sym (bytes_eq-exact g h graph) i) s.graphs)).index) in
          ap (λ o. index_or o index (node_in id (graph_in g s.graphs))) same
      by_tests true false graph node = refl
      by_tests false c graph node = refl

  content_told : (o : Op) (s : State) → node_in id (graph_in g (apply names o s).graphs) ≡ (if is_of_node names g id o then node_changed names o (node_in id (graph_in g s.graphs)) else node_in id (graph_in g s.graphs))
  content_told (use_label n) s = refl
  content_told (ensure_graph h) s = ap (node_in id) (same_graph g (label_in names h) s.graphs)
  content_told (ensure_node h n) s = node_in_after g id (label_in names h) (label_in names n) (λ n. n) s.graphs
  content_told (ensure_property h n p) s = node_in_after g id (label_in names h) (label_in names n) (on_entries (label_in names p) (λ es. es)) s.graphs
  content_told (add_entry h n p e) s = node_in_after g id (label_in names h) (label_in names n) (on_entries (label_in names p) (told (entry_in names e))) s.graphs
  content_told (append_list h n p es) s = node_in_after g id (label_in names h) (label_in names n) (on_entries (label_in names p) (told (list_object (items_in names es)))) s.graphs
  content_told (add_type h n t) s = node_in_after g id (label_in names h) (label_in names n) (with_type (label_in names t)) s.graphs
  content_told (set_index h n i) s = content_indexed (node_in (label_in names n) (graph_in (label_in names h) s.graphs)).index (label_in names h) (label_in names n) i s refl

  all_content : (os : List Op) (s : State) → node_in id (graph_in g (apply_all names os s).graphs) ≡ node_told names g id os (node_in id (graph_in g s.graphs))
  all_content [] s = refl
  all_content (o ∷ os) s = all_content os (apply names o s) ∙ ap (node_told names g id os) (content_told o s)

-- The entries of a property, of all that is told of a node.
module _ (names : List Name) (g id property : List ℕ) where
  changed_there : (h m p : Name) (change : List Tree → List Tree) (n : Node)
      → entries_in property (if is_node names g id h m then on_entries (label_in names p) change n else n).properties ≡ (if is_node names g id h m && is_property names property p then change (entries_in property n.properties) else entries_in property n.properties)
  changed_there h m p change n = by_test (is_node names g id h m)
    where
      by_test : (b : Bool) → entries_in property (if b then on_entries (label_in names p) change n else n).properties ≡ (if b && is_property names property p then change (entries_in property n.properties) else entries_in property n.properties)
      by_test true = entries_after property (label_in names p) change n.properties
      by_test false = refl

  properties_kept : (b : Bool) (n r : Node) → r.properties ≡ n.properties → entries_in property (if b then r else n).properties ≡ entries_in property n.properties
  properties_kept true n r same = ap (entries_in property) same
  properties_kept false n r same = refl

  index_keeps : (o : Option (List ℕ)) (i : List ℕ) (n : Node) → (index_or o i n).properties ≡ n.properties
  index_keeps (Some first) i n = refl
  index_keeps None i n = refl

  entry_told : (o : Op) (n : Node) → entries_in property (if is_of_node names g id o then node_changed names o n else n).properties ≡ entries_changed names g id property o (entries_in property n.properties)
  entry_told (use_label x) n = refl
  entry_told (ensure_graph h) n = refl
  entry_told (ensure_node h m) n = ap (λ (n : Node). entries_in property n.properties) (same_either_way (is_node names g id h m) n)
  entry_told (ensure_property h m p) n = changed_there h m p (λ es. es) n ∙ same_either_way (is_node names g id h m && is_property names property p) (entries_in property n.properties)
  entry_told (add_entry h m p e) n = changed_there h m p (told (entry_in names e)) n
  entry_told (append_list h m p es) n = changed_there h m p (told (list_object (items_in names es))) n
  entry_told (add_type h m t) n = properties_kept (is_node names g id h m) n (with_type (label_in names t) n) refl
  entry_told (set_index h m i) n = properties_kept (is_node names g id h m) n (index_or n.index i n) (index_keeps n.index i n)

  all_entries : (os : List Op) (n : Node) → entries_in property (node_told names g id os n).properties ≡ entries_told names g id property os (entries_in property n.properties)
  all_entries [] n = refl
  all_entries (o ∷ os) n = all_entries os (if is_of_node names g id o then node_changed names o n else n) ∙ ap (entries_told names g id property os) (entry_told o n)

-- In the empty node map.
default_alone : (g : List ℕ) → at g empty.graphs ≡ cond (bytes_eq g default_graph) (Some []) None
default_alone g = ap (λ b. cond b (Some []) None) (is_eq-slice_cmp g default_graph)

nothing_in : (g : List ℕ) → graph_in g empty.graphs ≡ []
nothing_in g = ap graph_or_new (default_alone g) ∙ by_test (bytes_eq g default_graph)
  where
    by_test : (b : Bool) → graph_or_new (cond b (Some []) None) ≡ []
    by_test true = refl
    by_test false = refl

is_default : (g : List ℕ) → is_some (at g empty.graphs) ≡ bytes_eq g default_graph
is_default g = ap is_some (default_alone g) ∙ by_test (bytes_eq g default_graph)
  where
    by_test : (b : Bool) → is_some {T = Graph} (cond b (Some []) None) ≡ b
    by_test true = refl
    by_test false = refl

pub told_from_empty : (names : List Name) (os : List Op) (s : State) → s.graphs ≡ empty.graphs → AreTold names os (apply_all names os s).graphs
told_from_empty names os s is = record {
  graph = λ g. graphs_told names g os s ∙ ap (λ graphs. list_any (is_of_graph names g) os || is_some (at g graphs)) is ∙ ap (λ b. list_any (is_of_graph names g) os || b) (is_default g);
  node = λ g id. all_there names g id os s ∙ ap (λ graphs. list_any (is_of_node names g id) os || is_some (at id (graph_in g graphs))) is
      ∙ ap (λ nodes. list_any (is_of_node names g id) os || is_some (at id nodes)) (nothing_in g) ∙ or_false (list_any (is_of_node names g id) os);
  content = content;
  entries = λ g id property. ap (λ (n : Node). entries_in property n.properties) (content g id) ∙ all_entries names g id property os new_node;
}
  where
    content : (g id : List ℕ) → node_in id (graph_in g (apply_all names os s).graphs) ≡ node_told names g id os new_node
    content g id = all_content names g id os s ∙ ap (λ graphs. node_told names g id os (node_in id (graph_in g graphs))) is ∙ ap (λ nodes. node_told names g id os (node_in id nodes)) (nothing_in g)

pub node_maps_are_told : NodeMapsAreTold
node_maps_are_told os =
    let names = used [] (uses_of_all os) in
    let told : AreTold names os (apply_all names os (labelled names empty)).graphs = told_from_empty names os (labelled names empty) refl in
    subst (λ (r : Run). AreTold names os r.state.graphs) (sym (labels_can_be_numbered_first os)) told
