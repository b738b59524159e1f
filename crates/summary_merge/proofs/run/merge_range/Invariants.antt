use Rattle.std.proofs.Common.{◌≡◌}
use Rattle.summary_merge.specs.Runs.{AreNeighbours, Begins, all_from, all_joined}
use Rattle.summary_merge.proofs.run.merge_range.Given as goal

abbrev pub invariant-loop-next : goal.invariant-loop-next
invariant-loop-next l = record {
  joined : all_from l.run l.next-iterator.rest.items ≡ all_joined l.fn.runs.items;
  next : Begins l.run.end l.next-iterator.rest.items;
  others : AreNeighbours l.next-iterator.rest.items;
}
