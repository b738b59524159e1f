-- Names and entries that are told apart by labels.
use Rattle.std.specs.Prelude.{◌≡◌, List, Bool, true, false, ⊤}
use Rattle.std.specs.List.{list_any}
use Rattle.ld_model.specs.Tree.{Tree, object}
use Rattle.ld_model.specs.Label.{is_blank}
use Rattle.ld_model.specs.Keys.{value_key}
use Rattle.node_model.specs.Walk.{has_key}
use Rattle.op_model.specs.Names.{Name, iri, same_name}
use Rattle.op_model.specs.Ops.{Entry, value, reference, list, Entries, no_entries, entry, Op, use_label, ensure_graph, ensure_node, ensure_property, add_entry, append_list, add_type, set_index}

-- The name is among those that have labels, or it is an IRI that doesn't look like a label.
abbrev pub HasOwn : List Name → Name → Type 0
HasOwn names (iri s) = is_blank s ≡ false
HasOwn names n = list_any (same_name n) names ≡ true

-- The tree is a value object (JSON-LD 1.1, section 9.5).
abbrev pub is_value : Tree → Bool
is_value (object ms) = has_key value_key ms
is_value _ = false

-- Each name in an entry is such a name, and each value a value object.
abbrev mutual
  pub EntryHasOwn : List Name → Entry → Type 0
  EntryHasOwn names (value t) = is_value t ≡ true
  EntryHasOwn names (reference n) = HasOwn names n
  EntryHasOwn names (list es) = EntriesHaveOwn names es

  pub EntriesHaveOwn : List Name → Entries → Type 0
  EntriesHaveOwn names no_entries = ⊤
  EntriesHaveOwn names (entry e es) = EntryHasOwn names e × EntriesHaveOwn names es

-- Each name in an operation, and each entry.
abbrev pub OpHasOwn : List Name → Op → Type 0
OpHasOwn names (use_label n) = HasOwn names n
OpHasOwn names (ensure_graph g) = HasOwn names g
OpHasOwn names (ensure_node g n) = HasOwn names g × HasOwn names n
OpHasOwn names (ensure_property g n p) = HasOwn names g × HasOwn names n × HasOwn names p
OpHasOwn names (add_entry g n p e) = HasOwn names g × HasOwn names n × HasOwn names p × EntryHasOwn names e
OpHasOwn names (append_list g n p es) = HasOwn names g × HasOwn names n × HasOwn names p × EntriesHaveOwn names es
OpHasOwn names (add_type g n t) = HasOwn names g × HasOwn names n × HasOwn names t
OpHasOwn names (set_index g n i) = HasOwn names g × HasOwn names n
