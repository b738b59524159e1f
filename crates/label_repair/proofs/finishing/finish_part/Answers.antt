use Rattle.std.proofs.Common.{ap, ◌∙◌}
use Rattle.subtree_summary.specs.Parts.{part_view, nodes_view}
use Rattle.op_types.specs.View.{names_view}
use Rattle.label_repair.specs.Made.{graphs_made, nodes_made}
use Rattle.label_repair.specs.Shards.{built_view}
use Rattle.label_repair.proofs.Finished.{made_is_finished}
use Rattle.label_repair.proofs.finishing.finish_part.Goals as goal

pub returns : goal.returns
returns c =
    let names = c.args.labels.now in
    c.in_ok-finish_nodes.ensures
    ∙ ap (nodes_made names (nodes_view c.args.part.nodes.entries)) (c.in_ok-make_graphs.ensures ∙ ap (λ es. graphs_made names (names_view c.args.part.graphs.keys) (built_view es)) c.new-made.ensures.empty)
    ∙ made_is_finished names (part_view c.args.part)
