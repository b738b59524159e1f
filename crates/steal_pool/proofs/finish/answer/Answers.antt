use Rattle.steal_pool.proofs.Lists.{got_here}
use Rattle.steal_pool.proofs.Results.{if_ok}
use Rattle.steal_pool.proofs.finish.answer.Goals as goal

pub returns-in-None-clause-answer : goal.returns-in-None-clause-answer
returns-in-None-clause-answer g c = if_ok c.perform.result _ _ (λ a t. (t.0, t.1, (0, c.perform.new.seat, got_here _ 0 _ c.requires.some, t.2))) c.perform.ensures.answer
