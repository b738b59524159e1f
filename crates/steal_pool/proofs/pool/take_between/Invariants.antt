use Rattle.std.proofs.Common.{◌≡◌, map}
use Rattle.steal_pool.specs.Pools.{EmptyBetween, Ready, known, token_deque}
use Rattle.steal_pool.proofs.pool.take_between.Given as goal

abbrev pub invariant-loop-at : goal.invariant-loop-at
invariant-loop-at g l = record {
  ready : Ready l.thieves.items l.tokens.items;
  deques : map token_deque l.tokens.items ≡ map token_deque l.initial.tokens.items;
  same : map known l.tokens.items ≡ map known l.initial.tokens.items;
  empty : EmptyBetween (map known l.initial.tokens.items) l.from l.at;
}
