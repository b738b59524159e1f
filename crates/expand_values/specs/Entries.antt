-- The pairs of key and value that stand in a map that is being made.
use Rattle.ld_model.specs.Tree.{Pairs}
use Rattle.ld_tree.specs.View.{members_view}
use Rattle.expand_values.specs.declared.draft.Entries.{Entries}
use Rattle.expand_values.specs.declared.draft.Entries.TheVariants.{Few, Many}

abbrev pub entries_view : Entries → Pairs
entries_view (Few ms) = ms
entries_view (Many m) = members_view m.entries
