use Rattle.stop_laws.proofs.Stopping as law
use Rattle.stop_laws.proofs.stopping_finds_the_same_plan.Goals as goal

pub returns : goal.returns
returns c = law.stopping_finds_the_same_plan
