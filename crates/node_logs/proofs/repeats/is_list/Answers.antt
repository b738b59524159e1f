use Rattle.std.proofs.Common.{◌∙◌, sym, ap}
use Rattle.ld_tree.specs.View.{view}
use Rattle.node_model.specs.NodeMap.{is_list_object}
use Rattle.node_logs.proofs.Once.{only_list-is}
use Rattle.node_logs.proofs.repeats.is_list.Goals as goal

pub returns-in-Map : goal.returns-in-Map
returns-in-Map c = c.is_only_list.ensures ∙ only_list-is c.in-Map.members ∙ ap (λ t. is_list_object (view t)) (sym c.in-Map.is)
