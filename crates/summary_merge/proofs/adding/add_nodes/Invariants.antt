use Rattle.std.proofs.Common.{◌≡◌}
use Rattle.std.specs.List.{IsDistinct}
use Rattle.std.specs.Map.{keys_of}
use Rattle.subtree_summary.specs.Parts.{same_code_key, nodes_view, nodes_joined}
use Rattle.summary_merge.proofs.adding.add_nodes.Given as goal

abbrev pub invariant-loop-key : goal.invariant-loop-key
invariant-loop-key l = record {
  same : nodes_joined (nodes_view l.nodes.entries) (nodes_view l.key-iterator) ≡ nodes_joined (nodes_view l.fn.nodes.entries) (nodes_view l.fn.later.entries);
  distinct : IsDistinct same_code_key (keys_of l.key-iterator);
}
