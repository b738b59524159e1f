-- A node map without lists, types and indexes, beside the nodes of the definition for plain documents.
use Rattle.std.proofs.Common.{◌≡◌, ℕ, List, [], ◌∷◌, Bool, true, false, Option, Some, None, refl, sym, ap, ◌∙◌}
use Rattle.std.specs.Prelude.{map as each}
use Rattle.std.specs.Option.{option_map}
use Rattle.std.specs.Str.{bytes_eq}
use Rattle.ld_model.specs.Tree.{Tree, Pairs, text, object, members_of, member_list-members_of, member_at, put}
use Rattle.ld_model.specs.Keys.{id_key, default_graph}
use Rattle.ld_model.specs.NodeMap as plain
use Rattle.ld_model.proofs.Puts.{bytes_eq-exact, member_at-put, member_at-put_other, ascending-put}
use Rattle.ld_model.proofs.SameMembers.{same_members}
use Rattle.ctx_types.specs.Expansion.{is_keyword}
use Rattle.node_model.specs.Maps.{at, with_at}
use Rattle.node_model.specs.Labels.{no_labels}
use Rattle.node_model.specs.NodeMap.{Node, Graph, new_node, node_or_new, node_in, entries_in, with_node, on_node, on_entries}
use Rattle.node_model.specs.AsTrees.{types_put, index_put, node_members, node_pair}
use Rattle.node_model.specs.Generating.{State, on_graphs}
use Rattle.node_laws.proofs.Maps.{at-with_at, at-with_at_other, with_at-same, member_at-as_members, as_members-with_at}
use Rattle.node_laws.proofs.Shape.{AreEntries, IsNode, IsGraph, node_in_is, with_node_is, on_entries_is}
use Rattle.node_laws.proofs.DueForm.{members_are}
use Rattle.node_laws.proofs.ReadOut.{listed, or_else, member_at-properties_put, entries_there, node_tree}

-- The nodes of a graph as trees.
abbrev pub shown : Graph → Pairs
shown nodes = each node_pair nodes

-- A node with the entries of a property changed.
node_changed : (id p : List ℕ) (change : List Tree → List Tree) (n : Node) → is_keyword p ≡ false → IsNode n → IsNode (on_entries p change n)
    → node_members id (on_entries p change n) ≡ plain.with_entries p change (node_members id n)
unfolding plain.with_entries
node_changed id p change n apart node after =
    same_members (node_members id (on_entries p change n)) (put p (listed (change (plain.entries_of (member_at p (node_members id n))))) (node_members id n))
    (members_are id (on_entries p change n) after).ascend (ascending-put p _ (node_members id n) (members_are id n node).ascend) each_key
  where
    base : Pairs
    base = types_put n.types (index_put n.index ((id_key, text id) ∷ []))

    value : List Tree
    value = change (entries_in p n.properties)

    each_key : (q : List ℕ) → member_at q (node_members id (on_entries p change n)) ≡ member_at q (put p (listed (change (plain.entries_of (member_at p (node_members id n))))) (node_members id n))
    each_key q =
        member_at-properties_put q (with_at p value n.properties) base after.ascend
        ∙ by_test (bytes_eq q p) refl
        ∙ ap (λ es. member_at q (put p (listed (change es)) (node_members id n))) (sym (entries_there id n node p apart))
      where
        by_test : (b : Bool) → bytes_eq q p ≡ b → or_else (option_map listed (at q (with_at p value n.properties))) (member_at q base) ≡ member_at q (put p (listed value) (node_members id n))
        by_test true same =
            let e : q ≡ p = bytes_eq-exact q p same in
            ap (λ x. or_else (option_map listed (at x (with_at p value n.properties))) (member_at x base)) e
            ∙ ap (λ o. or_else (option_map listed o) (member_at p base)) (at-with_at p value n.properties)
            ∙ sym (member_at-put p (listed value) (node_members id n))
            ∙ ap (λ x. member_at x (put p (listed value) (node_members id n))) (sym e)
        by_test false other =
            ap (λ o. or_else (option_map listed o) (member_at q base)) (at-with_at_other q p value n.properties other)
            ∙ sym (member_at-properties_put q n.properties base node.ascend)
            ∙ sym (member_at-put_other q p (listed value) (node_members id n) other)

-- A node that may be missing.
pub node_at-shown : (id : List ℕ) (nodes : Graph) → plain.node_at id (shown nodes) ≡ node_members id (node_in id nodes)
node_at-shown id nodes = ap (plain.node_or_new id) (member_at-as_members node_tree id nodes) ∙ by_found (at id nodes)
  where
    by_found : (o : Option Node) → plain.node_or_new id (option_map (node_tree id) o) ≡ node_members id (node_or_new o)
    by_found (Some n) = member_list-members_of (node_members id n)
    by_found None = refl

pub changed-shown : (id p : List ℕ) (change : List Tree → List Tree) (nodes : Graph) → is_keyword p ≡ false → ((es : List Tree) → AreEntries es → AreEntries (change es)) → IsGraph nodes
    → shown (with_node id (on_entries p change) nodes) ≡ plain.changed id p change (shown nodes)
unfolding plain.changed
changed-shown id p change nodes apart keeps graph =
    let node = node_in_is id nodes graph in
    as_members-with_at node_tree id (on_entries p change (node_in id nodes)) nodes
    ∙ ap (λ ms. put id (object (members_of ms)) (shown nodes))
    (node_changed id p change (node_in id nodes) apart node (on_entries_is p change apart keeps (node_in id nodes) node) ∙ ap (plain.with_entries p change) (sym (node_at-shown id nodes)))

pub made-shown : (id : List ℕ) (nodes : Graph) → IsGraph nodes → shown (with_node id (λ n. n) nodes) ≡ plain.with_node id (shown nodes)
unfolding plain.with_node
made-shown id nodes graph = by_found (at id nodes) refl ∙ ap (λ o. plain.with_node_by o id (shown nodes)) (sym (member_at-as_members node_tree id nodes))
  where
    by_found : (o : Option Node) → at id nodes ≡ o → shown (with_node id (λ n. n) nodes) ≡ plain.with_node_by (option_map (node_tree id) o) id (shown nodes)
    by_found (Some n) is =
        ap (λ o. shown (with_at id (node_or_new o) nodes)) is
        ∙ ap shown (with_at-same id n nodes graph.ascend is)
    by_found None is =
        ap (λ o. shown (with_at id (node_or_new o) nodes)) is
        ∙ as_members-with_at node_tree id new_node nodes

-- The state of a walk over a plain document: one graph, no label, no conflict.
abbrev pub plain_state : Graph → State
plain_state nodes = record { graphs = (default_graph, nodes) ∷ []; labels = no_labels; conflict = None }

pub on_plain : (id : List ℕ) (change : Node → Node) (nodes : Graph) → on_graphs (on_node default_graph id change) (plain_state nodes) ≡ plain_state (with_node id change nodes)
unfolding with_at
on_plain id change nodes = refl

-- The state has these nodes, and no others.
pub record Shows (s : State) (nodes : Pairs) : Type 0 where
  pub graph : Graph
  pub state : s ≡ plain_state graph
  pub is : IsGraph graph
  pub nodes_are : shown graph ≡ nodes

pub changed_shows : (id p : List ℕ) (change : List Tree → List Tree) (s : State) (nodes : Pairs) → is_keyword p ≡ false → ((es : List Tree) → AreEntries es → AreEntries (change es)) → Shows s nodes
    → Shows (on_graphs (on_node default_graph id (on_entries p change)) s) (plain.changed id p change nodes)
changed_shows id p change s nodes apart keeps shows = record {
  graph = with_node id (on_entries p change) shows.graph;
  state = ap (on_graphs (on_node default_graph id (on_entries p change))) shows.state ∙ on_plain id (on_entries p change) shows.graph;
  is = with_node_is id (on_entries p change) shows.graph (on_entries_is p change apart keeps) shows.is;
  nodes_are = changed-shown id p change shows.graph apart keeps shows.is ∙ ap (plain.changed id p change) shows.nodes_are;
}

pub made_shows : (id : List ℕ) (s : State) (nodes : Pairs) → Shows s nodes → Shows (on_graphs (on_node default_graph id (λ n. n)) s) (plain.with_node id nodes)
made_shows id s nodes shows = record {
  graph = with_node id (λ n. n) shows.graph;
  state = ap (on_graphs (on_node default_graph id (λ n. n))) shows.state ∙ on_plain id (λ n. n) shows.graph;
  is = with_node_is id (λ n. n) shows.graph (λ n node. node) shows.is;
  nodes_are = made-shown id shows.graph shows.is ∙ ap (plain.with_node id) shows.nodes_are;
}
