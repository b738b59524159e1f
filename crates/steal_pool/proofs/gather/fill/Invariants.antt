use Rattle.std.proofs.Common.{◌≡◌, ◌<◌, All, length}
use Rattle.steal_pool.specs.Gathers.{filled}
use Rattle.steal_pool.proofs.gather.fill.Given as goal

abbrev pub invariant-loop-piece : goal.invariant-loop-piece
invariant-loop-piece g l = record {
  left : filled l.slots.items l.piece-iterator.rest.items ≡ filled l.initial.slots.items l.fn.answers.items;
  inside : All (λ x. x.0 < length l.slots.items) l.piece-iterator.rest.items;
}
