-- A list inside an entry holds fewer entries than that entry.
use Rattle.std.specs.Prelude.{◌≤◌, max, List, [], ◌∷◌}
use Rattle.std.proofs.Common.{arith}
use denote.Param.Weighed.{most}
use Rattle.op_types.specs.declared.entry.Entry.{Entry}
use Rattle.op_types.specs.declared.entry.Entry.TheVariants as entry_kind
use Rattle.op_types.specs.declared.entry.Entries.TheDeep.{deep-Entry}
use Rattle.op_types.specs.View.{entry_view, entries_view, entry_weight, entries_size}

deep-Entry_le-weight : (e : Entry) → deep-Entry e ≤ entry_weight (entry_view e)
deep-Entry_le-weight (entry_kind.Value t) = omega arith
deep-Entry_le-weight (entry_kind.Reference n) = omega arith
deep-Entry_le-weight (entry_kind.List es) = omega arith

most_le-entries_size : (es : List Entry) → most deep-Entry es ≤ entries_size (entries_view es)
most_le-entries_size [] = omega arith
most_le-entries_size (e ∷ es) = omega (arith, deep-Entry_le-weight e, most_le-entries_size es)

pub entries_fall : (es : List Entry) → max (most deep-Entry es) 0 ≤ entries_size (entries_view es)
entries_fall es = omega (arith, most_le-entries_size es)
