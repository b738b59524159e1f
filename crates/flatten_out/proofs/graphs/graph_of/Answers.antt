use Rattle.std.proofs.Common.{arith}
use Rattle.std.proofs.lemmas.Grind.{common_steps}
use Rattle.ld_model.specs.Tree.{member_list-members_of}
use Rattle.flatten_out.proofs.graphs.graph_of.Goals as goal

pub returns-in-Some-Map : goal.returns-in-Some-Map
returns-in-Some-Map c = grind (arith, common_steps, member_list-members_of)
