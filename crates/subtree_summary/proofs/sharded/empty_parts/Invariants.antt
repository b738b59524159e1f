use Rattle.std.proofs.Common.{◌≡◌, ℕ, length}
use Rattle.sum_model.specs.Sums.{empty_sum}
use Rattle.subtree_summary.specs.Summing.{part_at}
use Rattle.subtree_summary.proofs.sharded.empty_parts.Given as goal

abbrev pub invariant-loop : goal.invariant-loop
invariant-loop l = record {
  long : length l.parts.items ≡ l.counter;
  empty : (k : ℕ) → part_at l.parts.items k ≡ empty_sum;
}
