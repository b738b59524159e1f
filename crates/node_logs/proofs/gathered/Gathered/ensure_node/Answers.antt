use Rattle.std.proofs.Common.{◌≡◌, true, false, sym, ap, ◌∙◌}
use Rattle.node_model.specs.NodeMap.{Node, on_node}
use Rattle.node_logs.specs.Log.{node_told}
use Rattle.node_logs.specs.Views.{graphs_view, row_told, is_row_of}
use Rattle.node_logs.proofs.Rows.{row-has, row-apart}
use Rattle.node_logs.proofs.gathered.Gathered.ensure_node.Goals as goal

pub returns-then-is_row_of : goal.returns-then-is_row_of
returns-then-is_row_of c =
    row-has c.args.self.now.row c.args.graph.now c.args.id.now (graphs_view c.args.self.now.noted.entries) (sym c.is_row_of.ensures ∙ c.if-is_row_of.true)

pub returns : goal.returns
returns c =
    ap (row_told c.args.self.now.row) (c.in_ok-note.ensures ∙ ap (λ f. on_node c.args.graph.now c.args.id.now f (graphs_view c.args.self.now.noted.entries)) (λ i n. sym (c.new_node.ensures.nothing n) i))
    ∙ row-apart c.args.self.now.row c.args.graph.now c.args.id.now (graphs_view c.args.self.now.noted.entries) (sym c.is_row_of.ensures ∙ c.if-is_row_of.false)
