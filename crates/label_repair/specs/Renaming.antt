-- What is said of a node, under labels.
use Rattle.std.specs.Prelude.{List, map as each}
use Rattle.std.specs.List.{AllByRecursion}
use Rattle.op_model.specs.Names.{Name}
use Rattle.op_model.specs.Running.{label_in, entry_in}
use Rattle.op_laws.specs.Own.{HasOwn, EntryHasOwn}
use Rattle.op_types.specs.View.{name_view, entries_view}
use Rattle.node_logs.specs.declared.node.Told.{Told}
use Rattle.subtree_summary.specs.declared.entry.Told as said

-- What was said of a property, with labels in place of names.
abbrev pub told_renamed : List Name → said.Told → Told
told_renamed names t = record { property = label_in names (name_view t.property); entries = each (entry_in names) (entries_view t.entries.items) }

-- The name of the property and those in the entries have labels, or are IRIs that don't look like labels, and each value is a value object.
abbrev pub IsOwn : List Name → said.Told → Type 0
IsOwn names t = HasOwn names (name_view t.property) × AllByRecursion (EntryHasOwn names) (entries_view t.entries.items)
