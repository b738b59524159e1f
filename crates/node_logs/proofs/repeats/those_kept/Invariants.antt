use Rattle.std.proofs.Common.{◌≡◌, ◌++◌}
use Rattle.std.specs.Vec.Iter.{into_iter_items}
use Rattle.node_logs.specs.Once.{kept}
use Rattle.node_logs.proofs.repeats.those_kept.Given as goal

-- Those kept, and those of what is left that stay.
abbrev pub invariant-loop-entry : goal.invariant-loop-entry
invariant-loop-entry l = l.those ++ kept (into_iter_items l.stay) l.entry-iterator ≡ kept (into_iter_items l.initial.stay) l.initial.entry-iterator
