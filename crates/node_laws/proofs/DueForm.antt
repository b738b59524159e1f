-- The node map as trees: its form, and its order.
use Rattle.std.proofs.Common.{◌≡◌, ℕ, List, [], ◌∷◌, Bool, true, false, if◌then◌else◌, ◌&&◌, ◌||◌, not, Option, Some, None, is_some, Ok, refl, sym, ap, ◌∙◌, subst}
use Rattle.std.specs.Prelude.{map as each}
use Rattle.std.specs.Str.{bytes_eq}
use Rattle.std.specs.List.{AllByRecursion, list_all}
use Rattle.std.specs.Option.{option_map}
use Rattle.std.specs.List.Sorted.{IsStrictlySortedBy}
use Rattle.ld_model.specs.Tree.{Tree, Pairs, text, array, object, trees_of, tree_list, tree_list-trees_of, members_of, member_list-members_of, member_at, put, byte_order, AreAscending}
use Rattle.ld_model.specs.Keys.{id_key, default_graph}
use Rattle.ld_model.proofs.Puts.{bytes_eq-refl, bytes_eq-exact, bytes_eq-sym, member_at-put_other, all-put, ascending_nil, ascending_cons, ascending-put}
use Rattle.ctx_types.specs.Expansion.{is_keyword}
use Rattle.node_model.specs.Keys.{type_key, index_key}
use Rattle.node_model.specs.Maps.{MapOf, at}
use Rattle.node_model.specs.NodeMap.{Node, Graph, Graphs, Conflict}
use Rattle.node_model.specs.AsTrees.{index_put, types_put, properties_put, node_members, node_pair, graph_pair, graph_pairs}
use Rattle.node_model.specs.Generating.{State, Generated, outcome, walked}
use Rattle.node_model.specs.DueForm.{is_text, are_entries, is_node_entry, is_node, is_graph, has_due_form}
use Rattle.node_laws.specs.Laws.{IsNodeInOrder, IsGraphInOrder, IsInForm, NodeMapsHaveTheDueForm}
use Rattle.node_laws.proofs.Maps.{keys_of-as_members, member_at-as_members}
use Rattle.node_laws.proofs.Shape.{IsProperty, IsNode, IsGraph, IsMap, entries_are, walked_is}

pub all_pass : {X : Type 0} (test : X → Bool) (xs : List X) → AllByRecursion (λ x. test x ≡ true) xs → list_all test xs ≡ true
all_pass test [] all = refl
all_pass test (x ∷ xs) all = rw (all.0, all_pass test xs all.1)

pub keyword_apart : (k p : List ℕ) → is_keyword k ≡ true → is_keyword p ≡ false → bytes_eq k p ≡ false
keyword_apart k p word apart = by_test (bytes_eq k p) refl
  where
    by_test : (b : Bool) → bytes_eq k p ≡ b → b ≡ false
    by_test true same = sym word ∙ ap is_keyword (bytes_eq-exact k p same) ∙ apart
    by_test false other = refl

-- The members of a node, as they are made.
pub record IsDue (id : List ℕ) (ms : Pairs) : Type 0 where
  pub ascend : AreAscending ms
  pub id_at : member_at id_key ms ≡ Some (text id)
  pub each : AllByRecursion (λ m. is_node_entry id m ≡ true) ms

put_is : (id k : List ℕ) (t : Tree) (ms : Pairs) → bytes_eq id_key k ≡ false → is_node_entry id (k, t) ≡ true → IsDue id ms → IsDue id (put k t ms)
put_is id k t ms apart entry is = record {
  ascend = ascending-put k t ms is.ascend;
  id_at = member_at-put_other id_key k t ms apart ∙ is.id_at;
  each = all-put (λ m. is_node_entry id m ≡ true) k t ms entry is.each;
}

id_is : (id : List ℕ) → IsDue id ((id_key, text id) ∷ [])
id_is id = record {
  ascend = ascending_cons (id_key, text id) [] tt ascending_nil;
  id_at = refl;
  each = (ap (λ b. b || false) (bytes_eq-refl id), tt);
}

index_is : (id : List ℕ) (o : Option (List ℕ)) (ms : Pairs) → IsDue id ms → IsDue id (index_put o ms)
index_is id (Some i) ms is = put_is id index_key (text i) ms refl refl is
index_is id None ms is = is

are_texts : (ts : List (List ℕ)) → list_all is_text (each text ts) ≡ true
are_texts [] = refl
are_texts (t ∷ ts) = are_texts ts

types_is : (id : List ℕ) (ts : List (List ℕ)) (ms : Pairs) → IsDue id ms → IsDue id (types_put ts ms)
types_is id [] ms is = is
types_is id (t ∷ ts) ms is =
    put_is id type_key (array (trees_of (each text (t ∷ ts)))) ms refl (ap (list_all is_text) (tree_list-trees_of (each text (t ∷ ts))) ∙ are_texts (t ∷ ts)) is

property_is : (id p : List ℕ) (es : List Tree) → is_keyword p ≡ false → are_entries (trees_of es) ≡ true → is_node_entry id (p, array (trees_of es)) ≡ true
property_is id p es apart entries =
    ap (λ b. if b then list_all is_text (tree_list (trees_of es)) else (not (is_keyword p) && are_entries (trees_of es))) (bytes_eq-sym p type_key ∙ keyword_apart type_key p refl apart)
    ∙ ap (λ b. not b && are_entries (trees_of es)) apart
    ∙ entries

properties_is : (id : List ℕ) (ps : MapOf (List Tree)) (ms : Pairs) → AllByRecursion IsProperty ps → IsDue id ms → IsDue id (properties_put ps ms)
properties_is id [] ms all is = is
properties_is id (p ∷ ps) ms all is =
    properties_is id ps (put p.0 (array (trees_of p.1)) ms) all.1
    (put_is id p.0 (array (trees_of p.1)) ms (keyword_apart id_key p.0 refl all.0.0) (property_is id p.0 p.1 all.0.0 (entries_are p.1 all.0.1)) is)

pub members_are : (id : List ℕ) (n : Node) → IsNode n → IsDue id (node_members id n)
members_are id n node = properties_is id n.properties _ node.each (types_is id n.types _ (index_is id n.index _ (id_is id)))

-- A node, a graph and the node map.
node_is_due : (id : List ℕ) (ms : Pairs) → IsDue id ms → is_node (id, object (members_of ms)) ≡ true
node_is_due id ms is =
    ap (λ l. is_some (member_at id_key l) && list_all (is_node_entry id) l) (member_list-members_of ms)
    ∙ rw (is.id_at, all_pass (is_node_entry id) ms is.each)

node_in_order : (id : List ℕ) (ms : Pairs) → IsDue id ms → IsNodeInOrder (id, object (members_of ms))
node_in_order id ms is = subst (λ l. AreAscending l × (member_at id_key l ≡ Some (text id))) (sym (member_list-members_of ms)) (is.ascend, is.id_at)

module _ (P : List ℕ × Tree → Type 0) (each_is : (e : List ℕ × Node) → IsNode e.1 → P (node_pair e)) where
  nodes_are : (nodes : Graph) → AllByRecursion (λ e. IsNode e.1) nodes → AllByRecursion P (each node_pair nodes)
  nodes_are [] all = tt
  nodes_are (e ∷ nodes) all = (each_is e all.0, nodes_are nodes all.1)

module _ (P : List ℕ × Tree → Type 0) (each_is : (e : List ℕ × Graph) → IsGraph e.1 → P (graph_pair e)) where
  graphs_are : (graphs : Graphs) → AllByRecursion (λ e. IsGraph e.1) graphs → AllByRecursion P (graph_pairs graphs)
  graphs_are [] all = tt
  graphs_are (e ∷ graphs) all = (each_is e all.0, graphs_are graphs all.1)

graph_is_due : (e : List ℕ × Graph) → IsGraph e.1 → is_graph (graph_pair e) ≡ true
graph_is_due e graph =
    ap (list_all is_node) (member_list-members_of (each node_pair e.1))
    ∙ all_pass is_node (each node_pair e.1) (nodes_are (λ m. is_node m ≡ true) (λ n node. node_is_due n.0 (node_members n.0 n.1) (members_are n.0 n.1 node)) e.1 graph.each)

graph_in_order : (e : List ℕ × Graph) → IsGraph e.1 → IsGraphInOrder (graph_pair e)
graph_in_order e graph =
    subst (λ l. AreAscending l × AllByRecursion IsNodeInOrder l) (sym (member_list-members_of (each node_pair e.1))) (
      subst (IsStrictlySortedBy byte_order) (sym (keys_of-as_members (λ id n. object (members_of (node_members id n))) e.1)) graph.ascend,
      nodes_are IsNodeInOrder (λ n node. node_in_order n.0 (node_members n.0 n.1) (members_are n.0 n.1 node)) e.1 graph.each,
    )

some_mapped : {X Y : Type 0} (f : X → Y) (o : Option X) → is_some o ≡ true → is_some (option_map f o) ≡ true
some_mapped f (Some x) is = refl
some_mapped f None is = absurd (cc)

map_is_due : (graphs : Graphs) → IsMap graphs → has_due_form (graph_pairs graphs) ≡ true
map_is_due graphs map =
    rw (
      ap is_some (member_at-as_members (λ name nodes. object (members_of (each node_pair nodes))) default_graph graphs) ∙ some_mapped _ (at default_graph graphs) map.default,
      all_pass is_graph (graph_pairs graphs) (graphs_are (λ m. is_graph m ≡ true) graph_is_due graphs map.each),
    )

map_in_order : (graphs : Graphs) → IsMap graphs → AreAscending (graph_pairs graphs)
map_in_order graphs map = subst (IsStrictlySortedBy byte_order) (sym (keys_of-as_members (λ name nodes. object (members_of (each node_pair nodes))) graphs)) map.ascend

-- What generation gives, where it gives something.
pub given : (o : Option Conflict) (s : State) (m : Generated) → outcome o s ≡ Ok m → record { graphs = graph_pairs s.graphs; issued = s.labels.issued } ≡ m
given (Some c) s m is = absurd (cc)
given None s m is = cc

pub map_in_form : (graphs : Graphs) → IsMap graphs → IsInForm (graph_pairs graphs)
map_in_form graphs map = record { form = map_is_due graphs map; ascend = map_in_order graphs map; each = graphs_are IsGraphInOrder graph_in_order graphs map.each }

pub node_maps_have_the_due_form : NodeMapsHaveTheDueForm
node_maps_have_the_due_form ts m is = subst (λ (m : Generated). IsInForm m.graphs) (given (walked ts).conflict (walked ts) m is) (map_in_form (walked ts).graphs (walked_is ts))
