use Rattle.std.proofs.Common.{ap, ◌∙◌}
use Rattle.node_logs.specs.Views.{graph_view, graphs_view}
use Rattle.node_logs.proofs.Maps.{shown-insert}
use Rattle.node_logs.proofs.graphs.put_graph.Goals as goal

pub returns-in-Ok : goal.returns-in-Ok
returns-in-Ok c = ap graphs_view c.in-Ok.ensures.entries ∙ shown-insert (λ g. graph_view g.entries) c.args.name c.args.nodes c.args.graphs.now.entries
