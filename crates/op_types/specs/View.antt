-- What names, keys, entries and operations of the code stand for.
use Rattle.std.specs.Prelude.{ℕ, ◌+◌, List, map as each}
use Rattle.ld_tree.specs.View.{view}
use Rattle.op_model.specs.Names as names
use Rattle.op_model.specs.Names.{iri, source, fresh}
use Rattle.op_model.specs.Ops as ops
use Rattle.op_model.specs.Ops.{value, reference, list, no_entries, entry, entries_of, use_label, ensure_graph, ensure_node, ensure_property, add_entry, append_list, add_type, set_index}
use Rattle.sum_model.specs.Sums.{Key}
use Rattle.op_types.specs.declared.name.Name.{Name}
use Rattle.op_types.specs.declared.name.Name.TheVariants.{Iri, Source, Fresh}
use Rattle.op_types.specs.declared.name.NodeKey.{NodeKey}
use Rattle.op_types.specs.declared.entry.Entry.{Entry}
use Rattle.op_types.specs.declared.entry.Entry.TheVariants as entry_kind
use Rattle.op_types.specs.declared.op.Op.{Op}
use Rattle.op_types.specs.declared.op.Op.TheVariants.{UseLabel, EnsureGraph, EnsureNode, EnsureProperty, AddEntry, AppendList, AddType, SetIndex}

abbrev pub name_view : Name → names.Name
name_view (Iri s) = iri s
name_view (Source s) = source s
name_view (Fresh chunk number) = fresh chunk number

abbrev pub names_view : List Name → List names.Name
names_view ns = each name_view ns

abbrev pub key_view : NodeKey → Key
key_view k = (name_view k.graph, name_view k.node)

-- One level of an entry; a list in it is seen as the entries that it holds.
abbrev pub entry_view : Entry → ops.Entry
entry_view (entry_kind.Value t) = value (view t)
entry_view (entry_kind.Reference n) = reference (name_view n)
entry_view (entry_kind.List es) = list (entries_of es)

abbrev pub entries_view : List Entry → List ops.Entry
entries_view es = each entry_view es

abbrev pub op_view : Op → ops.Op
op_view (UseLabel n) = use_label (name_view n)
op_view (EnsureGraph g) = ensure_graph (name_view g)
op_view (EnsureNode g n) = ensure_node (name_view g) (name_view n)
op_view (EnsureProperty g n p) = ensure_property (name_view g) (name_view n) (name_view p)
op_view (AddEntry g n p e) = add_entry (name_view g) (name_view n) (name_view p) (entry_view e)
op_view (AppendList g n p es) = append_list (name_view g) (name_view n) (name_view p) (entries_of es)
op_view (AddType g n t) = add_type (name_view g) (name_view n) (name_view t)
op_view (SetIndex g n i) = set_index (name_view g) (name_view n) i

abbrev pub ops_view : List Op → List ops.Op
ops_view os = each op_view os

-- How many entries an entry has in it, itself included: the measure that falls from an entry to those in it.
abbrev mutual
  pub entry_weight : ops.Entry → ℕ
  entry_weight (value t) = 1
  entry_weight (reference n) = 1
  entry_weight (list es) = 1 + entries_weight es

  pub entries_weight : ops.Entries → ℕ
  entries_weight no_entries = 0
  entries_weight (entry e es) = entry_weight e + entries_weight es

abbrev pub entries_size : List ops.Entry → ℕ
entries_size es = entries_weight (entries_of es)
