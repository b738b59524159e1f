use Rattle.std.proofs.Common.{◌≡◌, ◌+◌, ℕ, Some, length, slice_get}
use Rattle.pool_bench.specs.declared.grind.Span.{Span}
use Rattle.pool_bench.specs.Spans.{span}
use Rattle.pool_bench.proofs.grind.parts_of.Given as goal

abbrev pub invariant-loop : goal.invariant-loop
invariant-loop l = record {
  count : length l.parts.items ≡ l.counter;
  each : (shard : ℕ) (x : Span) → slice_get l.parts.items shard ≡ Some x → x ≡ span l.piece (l.piece + 1);
}
