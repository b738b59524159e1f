use Rattle.std.proofs.Common.{ap, ◌∙◌}
use Rattle.node_logs.specs.Log.{node_view}
use Rattle.node_logs.specs.Views.{graph_view}
use Rattle.node_logs.proofs.Maps.{shown-insert}
use Rattle.node_logs.proofs.graphs.put_node.Goals as goal

pub returns-in-Ok : goal.returns-in-Ok
returns-in-Ok c = ap graph_view c.in-Ok.ensures.entries ∙ shown-insert node_view c.args.id c.args.node c.args.nodes.now.entries
