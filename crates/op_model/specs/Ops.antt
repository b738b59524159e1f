-- Operations: what a step of node map generation does to the node map (JSON-LD 1.1 API, section 7.2), with names in place of labels.
use Rattle.std.specs.Prelude.{ℕ, List, [], ◌∷◌, Bool, false}
use Rattle.ld_model.specs.Tree.{Tree, same_tree}
use Rattle.op_model.specs.Names.{Name, same_name}

-- What stands under a property: a value object, a reference to a node, or a list of entries.
mutual
  pub data Entry : Type 0 where
    value : Tree → Entry
    reference : Name → Entry
    list : Entries → Entry

  pub data Entries : Type 0 where
    no_entries : Entries
    entry : Entry → Entries → Entries

abbrev pub entries_of : List Entry → Entries
entries_of [] = no_entries
entries_of (e ∷ es) = entry e (entries_of es)

abbrev pub entry_list : Entries → List Entry
entry_list no_entries = []
entry_list (entry e es) = e ∷ entry_list es

-- An equal value, or a reference to the same node. A list is the same as nothing, since each list is kept.
abbrev pub same_entry : Entry → Entry → Bool
same_entry (value a) (value b) = same_tree a b
same_entry (reference a) (reference b) = same_name a b
same_entry _ _ = false

pub data Op : Type 0 where
  -- a label of the document is needed: that of a type, or of a reverse property
  use_label : (name : Name) → Op
  -- a graph (step 6.10), a node of a graph (steps 6.3 and 6.4), and a property of a node (step 6.12.2), each made where it is missing
  ensure_graph : (graph : Name) → Op
  ensure_node : (graph node : Name) → Op
  ensure_property : (graph node property : Name) → Op
  -- a value or a reference, unless an equal one is there (steps 4.1.2, 6.5.2 and 6.6.2.2), and a list, whatever is there (step 5.3)
  add_entry : (graph node property : Name) (entry : Entry) → Op
  append_list : (graph node property : Name) (list : Entries) → Op
  -- a type, unless it is there (step 6.7), and an index (step 6.8)
  add_type : (graph node name : Name) → Op
  set_index : (graph node : Name) (index : List ℕ) → Op
