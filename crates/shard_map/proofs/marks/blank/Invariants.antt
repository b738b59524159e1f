use Rattle.std.proofs.Common.{◌≡◌, false}
use Rattle.std.specs.Prelude.{replicate}
use Rattle.shard_map.proofs.marks.blank.Given as goal

abbrev pub invariant-loop : goal.invariant-loop
invariant-loop l = record {
  so_far : l.marks.items ≡ replicate l.counter false;
}
