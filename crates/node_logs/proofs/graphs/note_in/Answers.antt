use Rattle.std.proofs.Common.{refl, sym, ap, ◌∙◌}
use Rattle.std.specs.Option.{option_copied_mut}
use Rattle.node_model.specs.Maps.{with_at}
use Rattle.node_model.specs.NodeMap.{node_or_new}
use Rattle.node_logs.specs.Log.{node_view, node_told}
use Rattle.node_logs.specs.Views.{graph_view}
use Rattle.node_logs.proofs.Maps.{changed-there, changed-missing}
use Rattle.node_logs.proofs.Rows.{view-told}
use Rattle.node_logs.proofs.graphs.note_in.Goals as goal

pub returns-in-Some : goal.returns-in-Some
returns-in-Some c =
    ap graph_view (c.get_mut.follows.holds c.tell_all.new.self).0
    ∙ changed-there node_view node_or_new (node_told c.args.node) c.args.id.now c.args.nodes.now.entries c.tell_all.new.self c.in-Some.noted.now
    c.get_mut.ensures.ordered (sym c.get_mut.ensures.value ∙ ap option_copied_mut c.in-Some.is) refl c.in_ok-tell_all.ensures

pub returns : goal.returns
returns c =
    c.in_ok-put_node.ensures ∙ ap (λ m. with_at c.in_ok-copy.field-0 (node_view c.args.node) (graph_view m.entries)) c.get_mut.follows.holds-at-none
    ∙ ap (λ id. with_at id (node_view c.args.node) (graph_view c.args.nodes.now.entries)) c.in_ok-copy.ensures
    ∙ changed-missing node_view node_or_new (node_told c.args.node) c.args.id.now c.args.nodes.now.entries (node_view c.args.node)
    (sym c.get_mut.ensures.value ∙ ap option_copied_mut c.in_default.is) (view-told c.args.node)
