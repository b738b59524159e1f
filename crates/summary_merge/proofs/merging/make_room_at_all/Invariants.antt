use Rattle.std.proofs.Common.{◌≡◌}
use Rattle.std.specs.List.{IsDistinct}
use Rattle.std.specs.Map.{keys_of}
use Rattle.subtree_summary.specs.Parts.{same_code_key, nodes_view}
use Rattle.summary_merge.proofs.Moves.{HasRoomButFor}
use Rattle.summary_merge.proofs.merging.make_room_at_all.Given as goal

abbrev pub invariant-loop-key : goal.invariant-loop-key
invariant-loop-key l = record {
  same : nodes_view l.nodes.entries ≡ nodes_view l.fn.nodes.entries;
  distinct : IsDistinct same_code_key (keys_of l.key-iterator);
  room : HasRoomButFor l.nodes.entries l.key-iterator l.later.entries;
}
