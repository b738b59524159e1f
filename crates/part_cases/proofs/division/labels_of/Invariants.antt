use Rattle.std.proofs.Common.{◌≡◌, ◌++◌, drop}
use Rattle.std.specs.Prelude.{map as each}
use Rattle.shard_laws.specs.Laws.{labels_by}
use Rattle.subtree_summary.specs.Uses.{uses_view}
use Rattle.part_cases.proofs.division.labels_of.Given as goal

-- What was told, and what is left.
abbrev pub invariant-loop-ops : goal.invariant-loop-ops
invariant-loop-ops l = each uses_view l.uses.items ++ each labels_by (drop l.ops-index l.chunks) ≡ each labels_by l.chunks
