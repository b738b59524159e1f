use Rattle.std.proofs.Common.{◌≡◌, [], take, drop}
use Rattle.node_logs.specs.Once.{repeats}
use Rattle.node_logs.proofs.repeats.repeats.Given as goal

abbrev pub invariant-loop-number : goal.invariant-loop-number
invariant-loop-number l = repeats (take l.number l.entries) (drop l.number l.entries) ≡ repeats [] l.entries
