use Rattle.std.proofs.Common.{◌≡◌}
use Rattle.subtree_summary.specs.OnTheWay.{nothing_said, sums_view}
use Rattle.subtree_summary.proofs.AllTold.{all_told}
use Rattle.subtree_summary.proofs.summing.summarise_all.Given as goal

abbrev pub invariant-loop-op : goal.invariant-loop-op
invariant-loop-op l = all_told l.op-iterator (sums_view l.sums) ≡ all_told l.fn.ops (nothing_said l.fn.chunk l.fn.shards)
