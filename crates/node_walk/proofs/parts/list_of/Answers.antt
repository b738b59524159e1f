use Rattle.std.proofs.Common.{◌≤◌, sym, subst}
use Rattle.ld_model.specs.Tree.{members_weight, members_of}
use Rattle.node_model.specs.Keys.{list_key}
use Rattle.node_walk.specs.Found.{found_weight}
use Rattle.node_walk.proofs.Lefts.{found_weighs}
use Rattle.node_walk.proofs.parts.list_of.Goals as goal

pub returns-clause-light : goal.returns-clause-light
returns-clause-light c = subst (λ found. found_weight found ≤ members_weight (members_of c.args.members)) (sym c.take.ensures.value) (found_weighs list_key c.args.members)
