use Rattle.std.proofs.Common.{◌≡◌, sym, ap, ◌∙◌}
use Rattle.node_model.specs.NodeMap.{on_node}
use Rattle.node_logs.specs.Log.{change_of}
use Rattle.node_logs.specs.Views.{graphs_view, row_told}
use Rattle.node_logs.proofs.Rows.{row-goes_on}
use Rattle.node_logs.proofs.gathered.Gathered.tell.Goals as goal

pub returns-then-is_of : goal.returns-then-is_of
returns-then-is_of c =
    row-goes_on c.in-Some.row c.tell.new.self c.args.graph.now c.args.id.now (change_of c.args.telling) (graphs_view c.args.self.now.noted.entries) (sym c.is_of.ensures ∙ c.if-is_of.true) c.in_ok-tell.ensures
    ∙ ap (λ r. on_node c.args.graph.now c.args.id.now (change_of c.args.telling) (row_told r (graphs_view c.args.self.now.noted.entries))) (sym c.in-Some.is)
