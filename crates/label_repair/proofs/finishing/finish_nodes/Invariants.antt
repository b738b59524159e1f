use Rattle.std.proofs.Common.{◌≡◌}
use Rattle.std.specs.List.{AllByRecursion}
use Rattle.shard_model.specs.Own.{NodeHasOwn}
use Rattle.subtree_summary.specs.Parts.{nodes_view}
use Rattle.label_repair.specs.Made.{nodes_made}
use Rattle.label_repair.specs.Shards.{built_view}
use Rattle.label_repair.proofs.finishing.finish_nodes.Given as goal

abbrev pub invariant-loop-key : goal.invariant-loop-key
invariant-loop-key l =
    record {
      made : nodes_made l.fn.labels (nodes_view l.key-iterator) (built_view l.made.entries) ≡ nodes_made l.fn.labels (nodes_view l.initial.key-iterator) (built_view l.initial.made.entries);
      own : AllByRecursion (NodeHasOwn l.fn.labels) (nodes_view l.key-iterator);
    }
