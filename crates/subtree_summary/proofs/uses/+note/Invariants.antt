use Rattle.std.proofs.Common.{◌≡◌, ◌+◌, ◌*◌, ◌≤◌}
use Rattle.op_model.specs.Running.{used}
use Rattle.op_types.specs.View.{entry_view, entry_weight, entries_size}
use Rattle.subtree_summary.specs.Uses.{uses_view, uses_of_list}
use Rattle.subtree_summary.proofs.uses.+note.Given as goal

abbrev pub decreases-note_entries : goal.decreases-note_entries
decreases-note_entries l = 2 * entries_size l.entries.now + 1

abbrev pub decreases-note_entry : goal.decreases-note_entry
decreases-note_entry l = 2 * entry_weight (entry_view l.entry.now)

abbrev pub invariant-note_entries-loop-entry : goal.invariant-note_entries-loop-entry
invariant-note_entries-loop-entry l = record {
  noted : used (uses_view l.uses) (uses_of_list l.entry-iterator) ≡ used (uses_view l.fn.uses) (uses_of_list l.initial.entry-iterator);
  lighter : entries_size l.entry-iterator ≤ entries_size l.initial.entry-iterator;
}
