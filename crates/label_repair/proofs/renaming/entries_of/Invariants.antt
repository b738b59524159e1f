use Rattle.std.proofs.Common.{◌≡◌, ◌++◌}
use Rattle.std.specs.Prelude.{map as each}
use Rattle.std.specs.List.{AllByRecursion}
use Rattle.op_laws.specs.Own.{EntryHasOwn}
use Rattle.op_model.specs.Running.{entry_in}
use Rattle.op_types.specs.View.{entries_view}
use Rattle.label_repair.proofs.renaming.entries_of.Given as goal

abbrev pub invariant-loop-entry : goal.invariant-loop-entry
invariant-loop-entry l =
    record {
      renamed : l.trees ++ each (entry_in l.fn.labels) (entries_view l.entry-iterator.rest.items) ≡ each (entry_in l.fn.labels) (entries_view l.initial.entry-iterator.rest.items);
      own : AllByRecursion (EntryHasOwn l.fn.labels) (entries_view l.entry-iterator.rest.items);
    }
