use Rattle.std.proofs.Common.{Some, sym, ap, ◌∙◌}
use Rattle.std.specs.Option.{option_copied_mut}
use Rattle.flatten_out.proofs.Into.{into_there, into_missing}
use Rattle.ld_model.specs.Tree.{put}
use Rattle.ld_model.specs.NodeMap.{node_or_new}
use Rattle.ld_model.specs.Flatten.{nodes_of}
use Rattle.ld_tree.specs.View.{view, members_view}
use Rattle.flatten_out.proofs.graphs.graph_into.Goals as goal

pub returns-in-Some : goal.returns-in-Some
returns-in-Some c =
    ap members_view (c.get_mut.follows.holds c.in_ok-held.field-0).0
    ∙ into_there c.args.name (view c.args.graph) c.args.nodes.now.entries c.in-Some.held.now c.in_ok-held.field-0 c.get_mut.ensures.ordered
    (sym c.get_mut.ensures.value ∙ ap option_copied_mut c.in-Some.is)
    c.in_ok-node.node c.in_ok-inside.inside (c.in_ok-node.ensures ∙ ap (λ v. node_or_new c.args.name (Some (view v))) c.replace.ensures.value) (c.in_ok-inside.ensures ∙ ap nodes_of c.graph_of.ensures) c.in_ok-held.ensures

pub returns : goal.returns
returns c =
    c.in_ok-put_node.ensures
    ∙ ap (λ m. put c.args.name (view c.in_ok-made.made) (members_view m.entries)) c.get_mut.follows.holds-at-none
    ∙ into_missing c.args.name (view c.args.graph) c.args.nodes.now.entries c.in_ok-made.made (sym c.get_mut.ensures.value ∙ ap option_copied_mut c.in_default.is)
    c.in_ok-node-2.node c.in_ok-inside.inside c.in_ok-node-2.ensures (c.in_ok-inside.ensures ∙ ap nodes_of c.graph_of.ensures) c.in_ok-made.ensures
