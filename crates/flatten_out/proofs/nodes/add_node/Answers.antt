use Rattle.std.proofs.Common.{◌++◌, sym, ap, ◌∙◌, append-nil}
use Rattle.ld_tree.specs.View.{view}
use Rattle.flatten_out.proofs.Turns.{nodes_of-more, nodes_of-less}
use Rattle.flatten_out.proofs.nodes.add_node.Goals as goal

pub returns-then-not-has_more : goal.returns-then-not-has_more
returns-then-not-has_more c = λ id.
    sym (ap (λ ts. c.args.nodes.now ++ ts) (nodes_of-less (id, view c.args.node) (sym (c.has_more.ensures id) ∙ c.if-not-has_more.true)) ∙ append-nil c.args.nodes.now)

pub returns : goal.returns
returns c = λ id.
    c.in_ok-push.ensures.ok ∙ sym (ap (λ ts. c.args.nodes.now ++ ts) (nodes_of-more (id, view c.args.node) (sym (c.has_more.ensures id) ∙ c.if-not-has_more.false)))
