use Rattle.std.proofs.Common.{◌≡◌, Option, sym, ap, ◌∙◌}
use Rattle.std.specs.Option.{option_map}
use Rattle.ld_tree.specs.View.{view}
use Rattle.ld_model.specs.Tree as model
use Rattle.ld_model.specs.Tree.{Pairs, member_at}
use Rattle.ld_model.specs.Keys.{default_graph}
use Rattle.ld_model.specs.Flatten.{graph_of, graphs_into, nodes_of}
use Rattle.flatten_out.proofs.Only.{only_default, without_default}
use Rattle.flatten_out.proofs.flattening.into_flattened.Goals as goal

-- The nodes of the default graph, which was taken out.
nodes_taken : (taken : Option model.Tree) (graphs nodes : Pairs) → nodes ≡ graph_of taken → taken ≡ member_at default_graph graphs → nodes ≡ graph_of (member_at default_graph graphs)
nodes_taken taken graphs nodes is found = is ∙ ap graph_of found

pub returns-then-is_only_default : goal.returns-then-is_only_default
returns-then-is_only_default c =
    let nodes = nodes_taken (option_map view c.take.result) c.args.map.graphs c.graph_of-nodes.result c.graph_of-nodes.ensures c.take.ensures.value in
    let same : c.graph_of-nodes.result ≡ graphs_into c.args.map.graphs (graph_of (member_at default_graph c.args.map.graphs)) =
    sym (only_default c.take.new.self c.graph_of-nodes.result (sym c.is_only_default.ensures ∙ c.if-is_only_default.true))
    ∙ ap (λ gs. graphs_into gs c.graph_of-nodes.result) c.take.ensures.left
    ∙ without_default c.args.map.graphs c.graph_of-nodes.result
    ∙ ap (graphs_into c.args.map.graphs) nodes in
    c.in_ok-outcome.ensures ∙ ap nodes_of same

pub returns : goal.returns
returns c =
    let nodes = nodes_taken (option_map view c.take.result) c.args.map.graphs c.graph_of-nodes.result c.graph_of-nodes.ensures c.take.ensures.value in
    let same : c.in_ok-nodes.nodes ≡ graphs_into c.args.map.graphs (graph_of (member_at default_graph c.args.map.graphs)) =
    c.in_ok-nodes.ensures
    ∙ ap (λ gs. graphs_into gs c.graph_of-nodes.result) c.take.ensures.left
    ∙ without_default c.args.map.graphs c.graph_of-nodes.result
    ∙ ap (graphs_into c.args.map.graphs) nodes in
    c.in_ok-outcome-2.ensures ∙ ap nodes_of same
