use Rattle.std.proofs.Common.{◌≡◌, ◌++◌, drop}
use Rattle.part_cases.specs.Chunks.{lone_runs}
use Rattle.part_cases.proofs.merging.runs_of.Given as goal

-- What was made, and what is left.
abbrev pub invariant-loop-ops : goal.invariant-loop-ops
invariant-loop-ops l = record {
  runs : l.runs.items ++ lone_runs l.shard.count l.shard.number l.number (drop l.ops-index l.chunks) ≡ lone_runs l.shard.count l.shard.number 0 l.chunks;
  number : l.number ≡ l.ops-index;
}
