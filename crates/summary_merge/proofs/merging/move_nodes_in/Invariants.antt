use Rattle.std.proofs.Common.{◌≡◌, ◌≤◌, length}
use Rattle.std.specs.List.{IsDistinct}
use Rattle.std.specs.Map.{keys_of}
use Rattle.indexmap.specs.IndexMap.{spare}
use Rattle.subtree_summary.specs.Parts.{same_code_key, nodes_view, nodes_joined}
use Rattle.summary_merge.specs.Room.{HasRoomForAll}
use Rattle.summary_merge.proofs.merging.move_nodes_in.Given as goal

abbrev pub invariant-loop-key : goal.invariant-loop-key
invariant-loop-key l = record {
  same : nodes_joined (nodes_view l.nodes.entries) (nodes_view l.key-iterator) ≡ nodes_joined (nodes_view l.fn.nodes.entries) (nodes_view l.fn.later.entries);
  distinct : IsDistinct same_code_key (keys_of l.key-iterator);
  room : length l.key-iterator ≤ spare l.nodes;
  inside : HasRoomForAll l.nodes.entries l.key-iterator;
}
