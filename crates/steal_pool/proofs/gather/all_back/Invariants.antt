use Rattle.std.proofs.Common.{◌≡◌, ◌++◌, map, Ok}
use Rattle.steal_pool.proofs.gather.all_back.Given as goal

abbrev pub invariant-loop-back : goal.invariant-loop-back
invariant-loop-back g l = record {
  so_far : map (λ w. Ok w) l.workers.items ++ l.back-iterator.rest.items ≡ l.fn.backs.items;
}
