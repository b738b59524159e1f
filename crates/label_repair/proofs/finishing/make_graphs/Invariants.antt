use Rattle.std.proofs.Common.{◌≡◌}
use Rattle.std.specs.List.{AllByRecursion}
use Rattle.op_laws.specs.Own.{HasOwn}
use Rattle.op_types.specs.View.{names_view}
use Rattle.label_repair.specs.Made.{graphs_made}
use Rattle.label_repair.specs.Shards.{built_view}
use Rattle.label_repair.proofs.finishing.make_graphs.Given as goal

abbrev pub invariant-loop-graph : goal.invariant-loop-graph
invariant-loop-graph l =
    record {
      made : graphs_made l.fn.labels (names_view l.graph-iterator) (built_view l.made.entries) ≡ graphs_made l.fn.labels (names_view l.initial.graph-iterator) (built_view l.initial.made.entries);
      own : AllByRecursion (HasOwn l.fn.labels) (names_view l.graph-iterator);
    }
