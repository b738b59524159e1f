-- What operations tell of a node map, read off them one by one, under labels that were numbered before.
use Rattle.std.specs.Prelude.{ℕ, ◌≡◌, List, [], ◌∷◌, ◌++◌, Bool, false, ◌&&◌, ◌||◌, if◌then◌else◌, Option, Some, None, is_some}
use Rattle.std.specs.Option.{option_or}
use Rattle.std.specs.Str.{bytes_eq}
use Rattle.std.specs.List.{list_any}
use Rattle.ld_model.specs.Tree.{Tree}
use Rattle.ld_model.specs.Keys.{default_graph}
use Rattle.node_model.specs.Maps.{at}
use Rattle.node_model.specs.NodeMap.{Node, Graphs, Conflict, new_node, graph_in, node_in, entries_in, list_object, told, on_entries, with_type, with_index}
use Rattle.op_model.specs.Names.{Name}
use Rattle.op_model.specs.Ops.{Op, use_label, ensure_graph, ensure_node, ensure_property, add_entry, append_list, add_type, set_index}
use Rattle.op_model.specs.Running.{label_in, entry_in, entries_in as items_in}

-- The operation has this graph.
abbrev pub is_of_graph : List Name → List ℕ → Op → Bool
is_of_graph names g (use_label n) = false
is_of_graph names g (ensure_graph h) = bytes_eq g (label_in names h)
is_of_graph names g (ensure_node h n) = bytes_eq g (label_in names h)
is_of_graph names g (ensure_property h n p) = bytes_eq g (label_in names h)
is_of_graph names g (add_entry h n p e) = bytes_eq g (label_in names h)
is_of_graph names g (append_list h n p es) = bytes_eq g (label_in names h)
is_of_graph names g (add_type h n t) = bytes_eq g (label_in names h)
is_of_graph names g (set_index h n i) = bytes_eq g (label_in names h)

-- These are the names of this node of this graph.
abbrev pub is_node : List Name → List ℕ → List ℕ → Name → Name → Bool
is_node names g id h n = bytes_eq g (label_in names h) && bytes_eq id (label_in names n)

-- The operation has this node of this graph.
abbrev pub is_of_node : List Name → List ℕ → List ℕ → Op → Bool
is_of_node names g id (use_label n) = false
is_of_node names g id (ensure_graph h) = false
is_of_node names g id (ensure_node h n) = is_node names g id h n
is_of_node names g id (ensure_property h n p) = is_node names g id h n
is_of_node names g id (add_entry h n p e) = is_node names g id h n
is_of_node names g id (append_list h n p es) = is_node names g id h n
is_of_node names g id (add_type h n t) = is_node names g id h n
is_of_node names g id (set_index h n i) = is_node names g id h n

-- The node's first index stays.
abbrev pub index_or : Option (List ℕ) → List ℕ → Node → Node
index_or (Some first) index n = n
index_or None index n = with_index index n

-- What an operation that has the node does to it.
abbrev pub node_changed : List Name → Op → Node → Node
node_changed names (ensure_property h m p) n = on_entries (label_in names p) (λ es. es) n
node_changed names (add_entry h m p e) n = on_entries (label_in names p) (told (entry_in names e)) n
node_changed names (append_list h m p es) n = on_entries (label_in names p) (told (list_object (items_in names es))) n
node_changed names (add_type h m t) n = with_type (label_in names t) n
node_changed names (set_index h m i) n = index_or n.index i n
node_changed names _ n = n

-- This node of this graph after operations: changed by those that have it, one after another.
abbrev pub node_told : List Name → List ℕ → List ℕ → List Op → Node → Node
node_told names g id [] n = n
node_told names g id (o ∷ os) n = node_told names g id os (if is_of_node names g id o then node_changed names o n else n)

-- The entries of a property of this node after operations: a value or a reference unless an equal one is there, and each list.
abbrev pub is_property : List Name → List ℕ → Name → Bool
is_property names property p = bytes_eq property (label_in names p)

abbrev pub entries_changed : List Name → List ℕ → List ℕ → List ℕ → Op → List Tree → List Tree
entries_changed names g id property (add_entry h n p e) es = if is_node names g id h n && is_property names property p then told (entry_in names e) es else es
entries_changed names g id property (append_list h n p items) es = if is_node names g id h n && is_property names property p then told (list_object (items_in names items)) es else es
entries_changed names g id property _ es = es

abbrev pub entries_told : List Name → List ℕ → List ℕ → List ℕ → List Op → List Tree → List Tree
entries_told names g id property [] es = es
entries_told names g id property (o ∷ os) es = entries_told names g id property os (entries_changed names g id property o es)

-- The graphs are what operations tell: which graphs there are, which nodes each has, and what each node is.
pub record AreTold (names : List Name) (os : List Op) (graphs : Graphs) : Type 0 where
  pub graph : (g : List ℕ) → is_some (at g graphs) ≡ (list_any (is_of_graph names g) os || bytes_eq g default_graph)
  pub node : (g id : List ℕ) → is_some (at id (graph_in g graphs)) ≡ list_any (is_of_node names g id) os
  pub content : (g id : List ℕ) → node_in id (graph_in g graphs) ≡ node_told names g id os new_node
  pub entries : (g id property : List ℕ) → entries_in property (node_in id (graph_in g graphs)).properties ≡ entries_told names g id property os []

-- An index that differs from the one that the node has.
abbrev pub index_conflict : Option (List ℕ) → List ℕ → List ℕ → Option Conflict
index_conflict (Some first) id index = if bytes_eq first index then None else Some (record { node = id; first = first; second = index })
index_conflict None id index = None

-- The conflict of an operation that comes after these.
abbrev pub conflict_of : List Name → List Op → Op → Option Conflict
conflict_of names earlier (set_index g n i) = index_conflict (node_told names (label_in names g) (label_in names n) earlier new_node).index (label_in names n) i
conflict_of names earlier _ = None

-- The first conflict of operations that come after these.
abbrev pub conflict_told : List Name → List Op → List Op → Option Conflict
conflict_told names earlier [] = None
conflict_told names earlier (o ∷ os) = option_or (conflict_of names earlier o) (conflict_told names (earlier ++ o ∷ []) os)
