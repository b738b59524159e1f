use Rattle.std.proofs.Common.{ap, ◌∙◌}
use Rattle.ld_model.specs.Tree.{null, put}
use Rattle.expand_values.proofs.Puts.{put-over}
use Rattle.expand_values.proofs.members.taken.Goals as goal

pub returns-clause-left : goal.returns-clause-left
returns-clause-left c = λ t. ap (put c.args.key.now t) c.take.ensures.left ∙ put-over c.args.key.now t null c.args.members.now c.take.ensures.ascending
