use Rattle.std.proofs.Common.{◌≡◌}
use Rattle.node_logs.specs.Log.{properties_told}
use Rattle.node_logs.specs.Views.{shown}
use Rattle.node_logs.specs.Merged.{trees_told}
use Rattle.node_logs.proofs.finishing.values_of.Given as goal

-- What is left, told of what was merged, gives what all gives.
abbrev pub invariant-loop-told : goal.invariant-loop-told
invariant-loop-told l =
    properties_told l.told-iterator.rest.items (shown trees_told l.values.entries) ≡ properties_told l.initial.told-iterator.rest.items (shown trees_told l.initial.values.entries)
