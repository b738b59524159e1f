use Rattle.shard_map.specs.Seats.{IsSeatOf}
use Rattle.thread_tests.proofs.map_tests.enter_all_by.Given as goal

abbrev pub invariant-loop-turn : goal.invariant-loop-turn
invariant-loop-turn l = record {
  first : IsSeatOf l.map l.a;
  second : IsSeatOf l.map l.b;
}
