-- What each step keeps true of a node map: graphs, nodes and properties ascend, a property is no keyword, and has entries.
use Rattle.std.proofs.Common.{◌≡◌, ℕ, List, [], ◌∷◌, ◌++◌, Bool, true, false, cond, if◌then◌else◌, ◌||◌, Option, Some, None, is_some, refl, sym, ap, ◌∙◌, subst}
use Rattle.std.specs.Prelude.{⊤}
use Rattle.std.specs.Str.{bytes_eq}
use Rattle.std.specs.List.{AllByRecursion, list_any}
use Rattle.ld_model.specs.Tree.{Tree, trees_of, same_tree}
use Rattle.ld_model.specs.Keys.{default_graph}
use Rattle.ld_model.specs.Label.{is_blank, label_of}
use Rattle.ld_model.specs.NodeMap.{added}
use Rattle.ld_model.proofs.Puts.{bytes_eq-exact}
use Rattle.ctx_types.specs.Expansion.{is_keyword}
use Rattle.node_model.specs.Maps.{MapOf, at}
use Rattle.node_model.specs.Labels.{Labels, label_by, label_for, named}
use Rattle.node_model.specs.NodeMap.{Node, Graph, Graphs, new_node, node_or_new, graph_or_new, entries_or_none, graph_in, node_in, entries_in, on_graph, with_node, on_node, list_object, is_list_object, told, on_entries, with_type, with_index}
use Rattle.node_model.specs.Generating.{State, generating, index_by, empty, walked}
use Rattle.node_model.specs.DueForm.{is_entry, are_entries}
use Rattle.node_model.specs.Walk.{nowhere}
use Rattle.node_laws.proofs.Lists.{all_last}
use Rattle.node_laws.proofs.Maps.{Ascend, at-with_at, at-with_at_other, all-with_at, all-at, ascend_none, ascend_cons, ascend-with_at}
use Rattle.node_laws.proofs.Likeness.{Likeness, Pairwise, Reach, AnswerAlike, lasts_here}
use Rattle.node_laws.proofs.Alike.{all_beside}
use Rattle.node_laws.proofs.Idle.{idle}

-- Each is an entry.
abbrev pub AreEntries : List Tree → Type 0
AreEntries es = AllByRecursion (λ e. is_entry e ≡ true) es

abbrev pub IsProperty : List ℕ × List Tree → Type 0
IsProperty p = (is_keyword p.0 ≡ false) × AreEntries p.1

pub record IsNode (n : Node) : Type 0 where
  pub ascend : Ascend n.properties
  pub each : AllByRecursion IsProperty n.properties

pub record IsGraph (nodes : Graph) : Type 0 where
  pub ascend : Ascend nodes
  pub each : AllByRecursion (λ e. IsNode e.1) nodes

pub record IsMap (graphs : Graphs) : Type 0 where
  pub ascend : Ascend graphs
  pub each : AllByRecursion (λ e. IsGraph e.1) graphs
  pub default : is_some (at default_graph graphs) ≡ true

new_node_is : IsNode new_node
new_node_is = record { ascend = ascend_none (List Tree); each = tt }

pub no_nodes : IsGraph []
no_nodes = record { ascend = ascend_none Node; each = tt }

-- What a look-up finds, or what is made where it finds nothing.
pub entries_in_are : (property : List ℕ) (ps : MapOf (List Tree)) → AllByRecursion IsProperty ps → AreEntries (entries_in property ps)
entries_in_are property ps all = by_found (at property ps) refl
  where
    by_found : (o : Option (List Tree)) → at property ps ≡ o → AreEntries (entries_or_none o)
    by_found (Some es) is = (all-at IsProperty property ps es all is).1
    by_found None is = tt

pub node_in_is : (id : List ℕ) (nodes : Graph) → IsGraph nodes → IsNode (node_in id nodes)
node_in_is id nodes graph = by_found (at id nodes) refl
  where
    by_found : (o : Option Node) → at id nodes ≡ o → IsNode (node_or_new o)
    by_found (Some n) is = all-at (λ e. IsNode e.1) id nodes n graph.each is
    by_found None is = new_node_is

pub graph_in_is : (g : List ℕ) (graphs : Graphs) → IsMap graphs → IsGraph (graph_in g graphs)
graph_in_is g graphs map = by_found (at g graphs) refl
  where
    by_found : (o : Option Graph) → at g graphs ≡ o → IsGraph (graph_or_new o)
    by_found (Some nodes) is = all-at (λ e. IsGraph e.1) g graphs nodes map.each is
    by_found None is = no_nodes

-- Changes that keep it.
pub on_graph_is : (g : List ℕ) (change : Graph → Graph) (graphs : Graphs) → ((nodes : Graph) → IsGraph nodes → IsGraph (change nodes)) → IsMap graphs → IsMap (on_graph g change graphs)
on_graph_is g change graphs keeps map = record {
  ascend = ascend-with_at g (change (graph_in g graphs)) graphs map.ascend;
  each = all-with_at (λ e. IsGraph e.1) g (change (graph_in g graphs)) graphs (keeps (graph_in g graphs) (graph_in_is g graphs map)) map.each;
  default = by_name (bytes_eq default_graph g) refl;
}
  where
    by_name : (b : Bool) → bytes_eq default_graph g ≡ b → is_some (at default_graph (on_graph g change graphs)) ≡ true
    by_name true same = subst (λ x. is_some (at x (on_graph g change graphs)) ≡ true) (sym (bytes_eq-exact default_graph g same)) (ap is_some (at-with_at g (change (graph_in g graphs)) graphs))
    by_name false apart = ap is_some (at-with_at_other default_graph g (change (graph_in g graphs)) graphs apart) ∙ map.default

pub with_node_is : (id : List ℕ) (change : Node → Node) (nodes : Graph) → ((n : Node) → IsNode n → IsNode (change n)) → IsGraph nodes → IsGraph (with_node id change nodes)
with_node_is id change nodes keeps graph = record {
  ascend = ascend-with_at id (change (node_in id nodes)) nodes graph.ascend;
  each = all-with_at (λ e. IsNode e.1) id (change (node_in id nodes)) nodes (keeps (node_in id nodes) (node_in_is id nodes graph)) graph.each;
}

pub on_node_is : (g id : List ℕ) (change : Node → Node) (graphs : Graphs) → ((n : Node) → IsNode n → IsNode (change n)) → IsMap graphs → IsMap (on_node g id change graphs)
on_node_is g id change graphs keeps map = on_graph_is g (with_node id change) graphs (λ nodes graph. with_node_is id change nodes keeps graph) map

pub on_entries_is : (property : List ℕ) (change : List Tree → List Tree) → is_keyword property ≡ false → ((es : List Tree) → AreEntries es → AreEntries (change es)) → (n : Node) → IsNode n → IsNode (on_entries property change n)
on_entries_is property change apart keeps n node = record {
  ascend = ascend-with_at property (change (entries_in property n.properties)) n.properties node.ascend;
  each = all-with_at IsProperty property (change (entries_in property n.properties)) n.properties (apart, keeps (entries_in property n.properties) (entries_in_are property n.properties node.each)) node.each;
}

pub told_is : (e : Tree) → is_entry e ≡ true → (es : List Tree) → AreEntries es → AreEntries (told e es)
unfolding added
told_is e is es all = by_tests (is_list_object e) (list_any (same_tree e) es)
  where
    by_tests : (b c : Bool) → AreEntries (cond b (es ++ e ∷ []) (cond c es (es ++ e ∷ [])))
    by_tests true c = all_last (λ x. is_entry x ≡ true) es e all is
    by_tests false true = all
    by_tests false false = all_last (λ x. is_entry x ≡ true) es e all is

-- A list object is an entry.
pub entries_are : (es : List Tree) → AreEntries es → are_entries (trees_of es) ≡ true
entries_are [] all = refl
entries_are (e ∷ es) all = rw (all.0, entries_are es all.1)

gathered_are : (es : List Tree) (fs : List ⊤) → Pairwise (λ e f. is_entry e ≡ true) es fs → AreEntries es
gathered_are [] [] is = tt
gathered_are (e ∷ es) (f ∷ fs) is = (is.0, gathered_are es fs is.1)
gathered_are [] (f ∷ fs) is = absurd is
gathered_are (e ∷ es) [] is = absurd is

list_is : (es : List Tree) (fs : List ⊤) → Pairwise (λ e f. is_entry e ≡ true) es fs → is_entry (list_object es) ≡ true
list_is es fs is = entries_are es (gathered_are es fs is)

value_is : (b c : Bool) → b ≡ true → (b || c) ≡ true
value_is true c is = refl
value_is false c is = absurd (cc)

-- A name that is issued is no keyword.
label_apart : (n : ℕ) → is_keyword (label_of n) ≡ false
label_apart n = refl

pub named_apart : (x : List ℕ) (l : Labels) → is_keyword x ≡ false → is_keyword (named x l).0 ≡ false
named_apart x l apart = by_form (is_blank x)
  where
    issued_apart : (o : Option ℕ) → is_keyword (label_by o x l).0 ≡ false
    issued_apart (Some n) = label_apart n
    issued_apart None = label_apart l.issued

    by_form : (b : Bool) → is_keyword (if b then label_for x l else (x, l)).0 ≡ false
    by_form true = issued_apart (at x l.given)
    by_form false = apart

index_is : (o : Option (List ℕ)) (g id index : List ℕ) (s : State) → IsMap s.graphs → IsMap (index_by o g id index s).graphs
index_is None g id index s map = on_node_is g id (with_index index) s.graphs (λ n node. record { ascend = node.ascend; each = node.each }) map
index_is (Some first) g id index s map = by_test (bytes_eq first index) s _ map map
  where
    by_test : (b : Bool) (r u : State) → IsMap r.graphs → IsMap u.graphs → IsMap (if b then r else u).graphs
    by_test true r u is other = is
    by_test false r u is other = other

-- Of names nothing is asked; what a property is, stays.
abbrev formed : Likeness State (List ℕ) Tree ⊤ ⊤ ⊤
formed = record { states = λ s t. IsMap s.graphs; names = λ s n m. ⊤; properties = λ s n m. is_keyword n ≡ false; entries = λ s e f. is_entry e ≡ true }

reach : (s r : State) → IsMap r.graphs → Reach formed s r tt
reach s r map = record { states = map; lasts = record { names = λ n m is. is; properties = λ n m is. is; entries = λ e f is. is } }

steps_keep : AnswerAlike formed generating idle
steps_keep = record {
  named = λ x s t map. (reach s _ map, tt, λ apart. named_apart x s.labels apart);
  node = λ g h id s t graph map. (reach s _ (on_node_is g _ (λ n. n) s.graphs (λ n node. node) map), tt);
  property = λ g h n m x s t apart graph id map.
      let name = named_apart x s.labels apart in
      (reach s _ (on_node_is g n _ s.graphs (on_entries_is _ (λ es. es) name (λ es all. all)) map), name);
  graph = λ g h s t graph map. reach s _ (on_graph_is g (λ nodes. nodes) s.graphs (λ nodes is. is) map);
  value = λ ms s is. value_is _ _ is;
  reference = λ n m s is. refl;
  list = λ es fs s is. list_is es fs is;
  add = λ g h n m p q e f s t graph id property entry map. reach s _ (on_node_is g n _ s.graphs (on_entries_is p (told e) property (told_is e entry)) map);
  append = λ g h n m p q es fs s t graph id property entries map. reach s _ (on_node_is g n _ s.graphs (on_entries_is p (told (list_object es)) property (told_is (list_object es) (list_is es fs entries))) map);
  type_ = λ g h n m x y s t graph id name map. reach s _ (on_node_is g n (with_type x) s.graphs (λ k node. record { ascend = node.ascend; each = node.each }) map);
  index = λ g h n m x s t graph id map. reach s _ (index_is _ g n x s map);
}

empty_is : IsMap empty.graphs
empty_is = record { ascend = ascend_cons {V = Graph} (default_graph, []) [] tt (ascend_none Graph); each = (no_nodes, tt); default = refl }

pub walked_is : (ts : List Tree) → IsMap (walked ts).graphs
walked_is ts =
    (all_beside formed generating idle steps_keep default_graph tt nowhere nowhere (trees_of ts) empty (record { state = empty; items = [] }) (record { state = tt; items = [] }) tt tt
    (record { states = empty_is; gathered = tt; lasts = lasts_here formed empty })).states
