use Rattle.phase_enter.proofs.Growing.{enter_grows, enter_came}
use Rattle.phase_enter.proofs.enters.Enters.enter.Goals as goal

pub returns-clause-grows : goal.returns-clause-grows
returns-clause-grows g c = enter_grows c.args.self.now.map.now c.args.seat.now c.try_enter-outcome.new.seat c.args.shard c.args.piece c.args.part c.try_enter-outcome.result c.requires.seat c.try_enter-outcome.ensures.seat c.try_enter-outcome.ensures.outcome

pub returns-clause-outcome : goal.returns-clause-outcome
returns-clause-outcome g c = enter_came c.args.self.now.map.now c.args.seat.now c.try_enter-outcome.new.seat c.args.shard c.args.piece c.args.part c.try_enter-outcome.result c.try_enter-outcome.ensures.outcome
