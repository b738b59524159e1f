use Rattle.ld_tree.specs.View.{trees_view}
use Rattle.node_walk.specs.Seen.{to_view}
use Rattle.op_types.specs.View.{name_view}
use Rattle.subtree_summary.specs.OnTheWay.{sums_view}
use Rattle.chunk_sums.specs.Views.{summing_view}
use Rattle.chunk_sums.proofs.Beside.{said_of_range}
use Rattle.chunk_sums.proofs.chunks.sum_range.Goals as goal

pub returns : goal.returns
returns c =
    said_of_range c.args.number (sums_view c.args.before) (trees_view c.args.items.now) (name_view c.args.graph.now) (to_view name_view c.args.to) (summing_view c.after-summing.result) (summing_view c.visit_items.new.map)
    c.new-gathered.result c.visit_items.new.gathered (sums_view c.into_sums.result)
    c.after-summing.ensures c.new-gathered.ensures c.in_ok-visit_items.ensures c.into_sums.ensures
