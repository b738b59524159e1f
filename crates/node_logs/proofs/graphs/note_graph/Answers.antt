use Rattle.std.proofs.Common.{refl, sym, ap, ◌∙◌}
use Rattle.std.specs.Option.{option_copied_mut}
use Rattle.node_model.specs.Maps.{with_at}
use Rattle.node_model.specs.NodeMap.{graph_or_new}
use Rattle.node_logs.specs.Views.{graph_view, graphs_view}
use Rattle.node_logs.proofs.Maps.{changed-there, changed-missing}
use Rattle.node_logs.proofs.graphs.note_graph.Goals as goal

pub returns-in-Some : goal.returns-in-Some
returns-in-Some c =
    ap graphs_view (c.get_mut.follows.holds c.in-Some._nodes.now).0
    ∙ changed-there (λ g. graph_view g.entries) graph_or_new (λ g. g) c.args.graph.now c.args.graphs.now.entries c.in-Some._nodes.now c.in-Some._nodes.now
    c.get_mut.ensures.ordered (sym c.get_mut.ensures.value ∙ ap option_copied_mut c.in-Some.is) refl refl

pub returns : goal.returns
returns c =
    c.in_ok-put_graph.ensures ∙ ap (λ m. with_at c.in_ok-copy.field-0 (graph_view c.new.result.entries) (graphs_view m.entries)) c.get_mut.follows.holds-at-none
    ∙ ap (λ g. with_at g (graph_view c.new.result.entries) (graphs_view c.args.graphs.now.entries)) c.in_ok-copy.ensures
    ∙ changed-missing (λ g. graph_view g.entries) graph_or_new (λ g. g) c.args.graph.now c.args.graphs.now.entries (graph_view c.new.result.entries)
    (sym c.get_mut.ensures.value ∙ ap option_copied_mut c.in_default.is) (ap graph_view c.new.ensures.empty)
