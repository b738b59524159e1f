use Rattle.std.proofs.Common.{Some, None, sym, ap, ◌∙◌}
use Rattle.std.specs.Option.{option_copied}
use Rattle.node_logs.proofs.Maps.{index-of, index-in}
use Rattle.node_logs.proofs.graphs.noted_index.Goals as goal

pub returns-in_default : goal.returns-in_default
returns-in_default c = sym (index-of c.args.graph.now c.args.id.now c.args.graphs.now.entries None (sym c.get.ensures.value ∙ ap option_copied c.in_default.is))

pub returns-in_default-get : goal.returns-in_default-get
returns-in_default-get c =
    let graph = index-of c.args.graph.now c.args.id.now c.args.graphs.now.entries (Some c.in-Some.nodes.now) (sym c.get.ensures.value ∙ ap option_copied c.in-Some.is) in
    sym (graph ∙ index-in c.args.id.now c.in-Some.nodes.now.entries None (sym c.get-2.ensures.value ∙ ap option_copied c.in_default-get.is))

pub returns-in_ok-copy-in-Some-index : goal.returns-in_ok-copy-in-Some-index
returns-in_ok-copy-in-Some-index c =
    let graph = index-of c.args.graph.now c.args.id.now c.args.graphs.now.entries (Some c.in-Some.nodes.now) (sym c.get.ensures.value ∙ ap option_copied c.in-Some.is) in
    ap Some c.in_ok-copy-in-Some-index.ensures ∙ sym c.in-Some-index.is
    ∙ sym (graph ∙ index-in c.args.id.now c.in-Some.nodes.now.entries (Some c.in-Some-get.node.now) (sym c.get-2.ensures.value ∙ ap option_copied c.in-Some-get.is))

pub returns-in-None : goal.returns-in-None
returns-in-None c =
    let graph = index-of c.args.graph.now c.args.id.now c.args.graphs.now.entries (Some c.in-Some.nodes.now) (sym c.get.ensures.value ∙ ap option_copied c.in-Some.is) in
    sym c.in-None.is ∙ sym (graph ∙ index-in c.args.id.now c.in-Some.nodes.now.entries (Some c.in-Some-get.node.now) (sym c.get-2.ensures.value ∙ ap option_copied c.in-Some-get.is))
