use Rattle.std.proofs.Common.{◌≡◌}
use Rattle.subtree_summary.specs.OnTheWay.{turned_to, sums_view}
use Rattle.subtree_summary.proofs.AllTold.{all_told}
use Rattle.chunk_sums.proofs.chunks.sum_spine.Given as goal

abbrev pub invariant-loop-op : goal.invariant-loop-op
invariant-loop-op l = all_told l.op-iterator (sums_view l.sums) ≡ all_told l.fn.ops (turned_to l.fn.number (sums_view l.fn.before))
