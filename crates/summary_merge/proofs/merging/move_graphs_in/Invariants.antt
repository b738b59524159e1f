use Rattle.std.proofs.Common.{◌≡◌, ◌≤◌, length}
use Rattle.std.specs.List.{IsDistinct}
use Rattle.indexmap.specs.IndexSet.{spare}
use Rattle.op_model.specs.Names.{same_name}
use Rattle.sum_model.specs.Joins.{lists_joined}
use Rattle.op_types.specs.View.{names_view}
use Rattle.subtree_summary.specs.Parts.{same_code_name}
use Rattle.summary_merge.proofs.merging.move_graphs_in.Given as goal

abbrev pub invariant-loop-graph : goal.invariant-loop-graph
invariant-loop-graph l = record {
  same : lists_joined same_name (names_view l.graphs.keys) (names_view l.graph-iterator) ≡ lists_joined same_name (names_view l.fn.graphs.keys) (names_view l.fn.later.keys);
  distinct : IsDistinct same_code_name l.graph-iterator;
  room : length l.graph-iterator ≤ spare l.graphs;
}
