use Rattle.std.proofs.Common.{arith}
use Rattle.std.proofs.lemmas.Grind.{common_steps}
use Rattle.ld_model.specs.Tree.{member_list-members_of}
use Rattle.flatten_out.proofs.nodes.has_more.Goals as goal

pub returns-in-Map : goal.returns-in-Map
returns-in-Map c = λ id. grind (arith, common_steps, member_list-members_of)
