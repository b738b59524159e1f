use Rattle.std.proofs.Common.{sym, ap, ◌∙◌, Some}
use Rattle.ld_tree.specs.View.{view}
use Rattle.ld_model.specs.NodeMap.{node_or_new}
use Rattle.ld_model.specs.Tree.{member_list-members_of}
use Rattle.flatten_out.proofs.graphs.node_or_new.Goals as goal

pub returns-in-Map : goal.returns-in-Map
returns-in-Map c = sym (ap (λ v. node_or_new c.args.id.now (Some (view v))) c.in-Map.is ∙ member_list-members_of c.in-Map.members)
