use Rattle.std.proofs.Common.{◌≡◌, ◌++◌}
use Rattle.std.specs.BTreeSet.{contains}
use Rattle.node_logs.specs.Once.{stays, none_ahead}
use Rattle.node_logs.specs.TreeOrder.{tree_order}
use Rattle.node_logs.proofs.repeats.which_stay.Given as goal

abbrev pub invariant-loop-entry : goal.invariant-loop-entry
invariant-loop-entry l = l.stay.items ++ stays (contains tree_order l.seen) l.entry-iterator ≡ stays none_ahead l.initial.entry-iterator
