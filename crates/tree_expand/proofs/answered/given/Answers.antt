use Rattle.tree_expand.specs.Known.{answer_view}
use Rattle.tree_expand.proofs.Known.{copied_range}
use Rattle.tree_expand.proofs.answered.given.Goals as goal

pub returns : goal.returns
returns c = copied_range c.args.from (answer_view c.args.answer.now) c.behind.result c.in_ok-outcome.outcome c.behind.ensures c.in_ok-outcome.ensures
