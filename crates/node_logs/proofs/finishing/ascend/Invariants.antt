use Rattle.std.proofs.Common.{◌≡◌, length}
use Rattle.node_logs.specs.Merged.{properties_ascend}
use Rattle.node_logs.proofs.finishing.ascend.Given as goal

abbrev pub invariant-loop-rest : goal.invariant-loop-rest
invariant-loop-rest l = properties_ascend l.rest ≡ properties_ascend l.fn.log

abbrev pub decreases-loop-rest : goal.decreases-loop-rest
decreases-loop-rest l = length l.rest
