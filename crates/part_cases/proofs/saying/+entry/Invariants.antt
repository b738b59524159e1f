use Rattle.std.proofs.Common.{◌+◌, ◌*◌, ◌≤◌}
use Rattle.op_types.specs.View.{entry_view, entry_weight, entries_size}
use Rattle.part_cases.proofs.saying.+entry.Given as goal

abbrev pub decreases-push_entry : goal.decreases-push_entry
decreases-push_entry l = 2 * entry_weight (entry_view l.entry.now)

abbrev pub decreases-push_entries : goal.decreases-push_entries
decreases-push_entries l = 2 * entries_size l.entries.now + 1

abbrev pub invariant-push_entries-loop-entry : goal.invariant-push_entries-loop-entry
invariant-push_entries-loop-entry l = entries_size l.entry-iterator ≤ entries_size l.initial.entry-iterator
