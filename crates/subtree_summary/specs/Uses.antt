-- The names that need labels.
use Rattle.std.specs.Prelude.{List}
use Rattle.op_model.specs.Names.{Name}
use Rattle.op_model.specs.Ops.{Entry, entries_of}
use Rattle.op_model.specs.Running.{uses_of_entries}
use Rattle.op_types.specs.View.{names_view}
use Rattle.subtree_summary.specs.declared.uses.LabelUses.{LabelUses}

abbrev pub uses_view : LabelUses → List Name
uses_view u = names_view u.names.keys

-- The names that entries use, one after another.
abbrev pub uses_of_list : List Entry → List Name
uses_of_list es = uses_of_entries (entries_of es)
