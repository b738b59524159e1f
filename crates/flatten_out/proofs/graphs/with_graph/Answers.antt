use Rattle.std.proofs.Common.{ap}
use Rattle.ld_model.specs.Tree.{object, members_of, put}
use Rattle.flatten_out.proofs.graphs.with_graph.Goals as goal

pub returns : goal.returns
unfolding put
returns c = ap (λ ms. object (members_of ms)) c.in_ok-put.ensures.ok
