use Rattle.std.proofs.Common.{◌≡◌, ◌+◌, ◌*◌, ◌≤◌, ◌++◌}
use Rattle.op_types.specs.View.{entry_view, entry_weight, entries_size}
use Rattle.op_types.proofs.entry.+copying.Given as goal

abbrev pub decreases-Entry::copy : goal.decreases-Entry::copy
decreases-Entry::copy l = 2 * entry_weight (entry_view l.self.now)

abbrev pub decreases-Entries::copy : goal.decreases-Entries::copy
decreases-Entries::copy l = 2 * entries_size l.self.now + 1

abbrev pub invariant-Entries::copy-loop-entry : goal.invariant-Entries::copy-loop-entry
invariant-Entries::copy-loop-entry l =
    record {
      copied : l.copy ++ l.entry-iterator ≡ l.initial.entry-iterator;
      lighter : entries_size l.entry-iterator ≤ entries_size l.initial.entry-iterator;
    }
