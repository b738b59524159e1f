use Rattle.std.proofs.Common.{ap, ◌∙◌}
use Rattle.ld_model.specs.Tree.{Pairs, object, members_of}
use Rattle.node_model.specs.AsTrees.{node_members}
use Rattle.label_repair.proofs.finishing.finished.Goals as goal

pub returns : goal.returns
returns c =
    ap (λ (ms : Pairs). (c.args.id, object (members_of ms))) (c.in_ok-members.ensures ∙ ap (node_members c.args.id) c.in_ok-node.ensures)
