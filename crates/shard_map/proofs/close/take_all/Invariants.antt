use Rattle.std.proofs.Common.{◌≡◌, ℕ, ◌<◌, ◌≤◌, false, get_or, map, drop, ◌++◌}
use Rattle.std.specs.Prelude.{vec_len, vec_capacity}
use Rattle.std.specs.Mem.Slots.{slots_filled, slots_items, slots_len}
use Rattle.std.specs.Mem.Slots.Ownership.{Filled}
use Rattle.shard_map.specs.Rule.{gathered}
use Rattle.shard_map.proofs.close.take_all.Given as goal

abbrev pub invariant-loop-at : goal.invariant-loop-at
invariant-loop-at g l = record {
  words : l.closed.words ≡ l.initial.closed.words;
  items : slots_items l.closed.slots ≡ slots_items l.initial.closed.slots;
  count : slots_len l.closed.slots ≡ slots_len l.initial.closed.slots;
  full : Filled (slots_filled l.closed.slots) l.at (slots_len l.closed.slots);
  empty : (k : ℕ) → k < l.at → get_or (slots_filled l.closed.slots) k false ≡ false;
  len : vec_len l.lists ≡ l.at;
  room : slots_len l.closed.slots ≤ vec_capacity l.lists;
  left : map (λ runs. runs.items) l.lists.items ++ gathered (drop l.at (slots_items l.initial.closed.words)) (drop l.at (slots_items l.initial.closed.slots)) ≡ gathered (slots_items l.initial.closed.words) (slots_items l.initial.closed.slots);
}
