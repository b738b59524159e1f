use Rattle.std.proofs.Common.{◌≡◌, ◌+◌, ◌*◌, ◌≤◌, ◌++◌}
use Rattle.std.specs.Prelude.{map as each}
use Rattle.std.specs.List.{AllByRecursion}
use Rattle.op_laws.specs.Own.{EntryHasOwn}
use Rattle.op_model.specs.Running.{entry_in}
use Rattle.op_types.specs.View.{entry_view, entry_weight, entries_size}
use Rattle.label_repair.proofs.renaming.+entry.Given as goal

abbrev pub decreases-tree_of : goal.decreases-tree_of
decreases-tree_of l = 2 * entry_weight (entry_view l.entry)

abbrev pub decreases-items_of : goal.decreases-items_of
decreases-items_of l = 2 * entries_size l.entries + 1

abbrev pub invariant-items_of-loop-entry : goal.invariant-items_of-loop-entry
invariant-items_of-loop-entry l =
    record {
      renamed : l.trees ++ each (entry_in l.fn.labels) l.entry-iterator ≡ each (entry_in l.fn.labels) l.initial.entry-iterator;
      lighter : entries_size l.entry-iterator ≤ entries_size l.initial.entry-iterator;
      own : AllByRecursion (EntryHasOwn l.fn.labels) l.entry-iterator;
    }
