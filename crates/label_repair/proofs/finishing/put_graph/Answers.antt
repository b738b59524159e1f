use Rattle.std.proofs.Common.{ap, ◌∙◌}
use Rattle.ld_tree.specs.Built.{built}
use Rattle.node_logs.proofs.Maps.{shown-insert}
use Rattle.label_repair.specs.Shards.{pairs_view, built_view}
use Rattle.label_repair.proofs.finishing.put_graph.Goals as goal

pub returns-in-Ok : goal.returns-in-Ok
returns-in-Ok c = ap built_view c.in-Ok.ensures.entries ∙ shown-insert (λ v. built (pairs_view v)) c.args.name c.args.pairs c.args.graphs.now.entries
