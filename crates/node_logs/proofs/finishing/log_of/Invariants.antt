use Rattle.std.proofs.Common.{◌≡◌, ◌++◌}
use Rattle.std.specs.Prelude.{map}
use Rattle.node_logs.specs.Views.{shown}
use Rattle.node_logs.specs.Merged.{pair_of, trees_told}
use Rattle.node_logs.proofs.finishing.log_of.Given as goal

abbrev pub invariant-loop-property : goal.invariant-loop-property
invariant-loop-property l = map pair_of l.log.items ++ shown trees_told l.property-iterator ≡ shown trees_told l.fn.values.entries
