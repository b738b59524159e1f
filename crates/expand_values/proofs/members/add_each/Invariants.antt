use Rattle.std.proofs.Common.{◌≡◌}
use Rattle.expand_model.specs.Values.{add_each}
use Rattle.expand_values.proofs.members.add_each.Given as goal

abbrev pub invariant-loop-value : goal.invariant-loop-value
invariant-loop-value l = add_each l.key l.value-iterator l.map ≡ add_each l.key l.initial.value-iterator l.initial.map
