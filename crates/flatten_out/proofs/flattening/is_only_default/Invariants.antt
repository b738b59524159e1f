use Rattle.std.proofs.Common.{◌≡◌}
use Rattle.flatten_out.specs.Only.{is_only_default}
use Rattle.flatten_out.proofs.flattening.is_only_default.Given as goal

abbrev pub invariant-loop-name : goal.invariant-loop-name
invariant-loop-name l = is_only_default l.name-iterator ≡ is_only_default l.initial.name-iterator
