use Rattle.std.proofs.Common.{ap, ◌∙◌}
use Rattle.ld_tree.specs.View.{view, members_view}
use Rattle.node_logs.proofs.GraphLemmas.{shown-new}
use Rattle.flatten_out.proofs.graphs.put_node.Goals as goal

pub returns-in-Ok : goal.returns-in-Ok
returns-in-Ok c = ap members_view c.in-Ok.ensures.entries ∙ shown-new (λ k v. view v) c.args.id c.args.node c.args.nodes.now.entries
