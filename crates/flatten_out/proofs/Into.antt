-- A graph put into the default graph, where the node of its name is there, and where it is missing.
use Rattle.std.proofs.Common.{◌≡◌, ℕ, List, Some, None, sym, ap, ◌∙◌}
use Rattle.std.specs.Option.{option_map}
use Rattle.std.specs.List.Sorted.{IsStrictlySortedBy}
use Rattle.std.specs.Map.{keys_of, lookup, set_value}
use Rattle.std.specs.BTreeMap.{is_at}
use Rattle.ld_model.specs.Tree.{Tree, Pairs, array, object, trees_of, members_of, byte_order, put}
use Rattle.ld_model.specs.Keys.{graph_key}
use Rattle.ld_model.specs.NodeMap.{new_node, node_or_new}
use Rattle.ld_model.specs.Flatten.{graph_into, graph_of, nodes_of}
use Rattle.ld_tree.specs.View.{view, members_view}
use Rattle.ld_tree.specs.declared.value.Tree.{Tree as Value}
use Rattle.node_logs.proofs.GraphLemmas.{member_at-shown, shown-put}

-- A node with a graph's nodes.
abbrev with_graph : Tree → Pairs → Tree
with_graph graph node = object (members_of (put graph_key (array (trees_of (nodes_of (graph_of (Some graph))))) node))

pub into_there : (name : List ℕ) (graph : Tree) (es : List (List ℕ × Value)) (old new : Value) → IsStrictlySortedBy byte_order (keys_of es)
    → lookup (is_at (byte_order name)) es ≡ Some old
    → (node : Pairs) (inside : List Tree) → node ≡ node_or_new name (Some (view old)) → inside ≡ nodes_of (graph_of (Some graph))
    → view new ≡ object (members_of (put graph_key (array (trees_of inside)) node))
    → members_view (set_value (is_at (byte_order name)) es new) ≡ graph_into (name, graph) (members_view es)
into_there name graph es old new sorted there node inside node_is inside_is is =
    shown-put (λ k v. view v) name new old es sorted there
    ∙ ap (λ t. put name t (members_view es))
    (is
    ∙ ap (λ ts. object (members_of (put graph_key (array (trees_of ts)) node))) inside_is
    ∙ ap (with_graph graph) (node_is ∙ ap (node_or_new name) (sym (member_at-shown (λ k v. view v) name es ∙ ap (option_map view) there))))

pub into_missing : (name : List ℕ) (graph : Tree) (es : List (List ℕ × Value)) (new : Value) → lookup (is_at (byte_order name)) es ≡ None
    → (node : Pairs) (inside : List Tree) → node ≡ new_node name → inside ≡ nodes_of (graph_of (Some graph))
    → view new ≡ object (members_of (put graph_key (array (trees_of inside)) node))
    → put name (view new) (members_view es) ≡ graph_into (name, graph) (members_view es)
into_missing name graph es new missing node inside node_is inside_is is =
    ap (λ t. put name t (members_view es))
    (is
    ∙ ap (λ ts. object (members_of (put graph_key (array (trees_of ts)) node))) inside_is
    ∙ ap (with_graph graph) (node_is ∙ ap (node_or_new name) (sym (member_at-shown (λ k v. view v) name es ∙ ap (option_map view) missing))))
