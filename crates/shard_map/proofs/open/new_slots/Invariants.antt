use Rattle.std.proofs.Common.{◌≡◌, length}
use Rattle.std.specs.Prelude.{All}
use Rattle.shard_map.specs.Rule.{IsFresh}
use Rattle.shard_map.proofs.open.new_slots.Given as goal

abbrev pub invariant-loop : goal.invariant-loop
invariant-loop g l = record {
  count : length l.slots.items ≡ l.counter;
  fresh : All (IsFresh l.room) l.slots.items;
}
