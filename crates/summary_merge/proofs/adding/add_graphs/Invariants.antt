use Rattle.std.proofs.Common.{◌≡◌}
use Rattle.std.specs.List.{IsDistinct}
use Rattle.op_model.specs.Names.{same_name}
use Rattle.sum_model.specs.Joins.{lists_joined}
use Rattle.op_types.specs.View.{names_view}
use Rattle.subtree_summary.specs.Parts.{same_code_name}
use Rattle.summary_merge.proofs.adding.add_graphs.Given as goal

abbrev pub invariant-loop-graph : goal.invariant-loop-graph
invariant-loop-graph l = record {
  same : lists_joined same_name (names_view l.graphs.keys) (names_view l.graph-iterator) ≡ lists_joined same_name (names_view l.fn.graphs.keys) (names_view l.fn.later.keys);
  distinct : IsDistinct same_code_name l.graph-iterator;
}
