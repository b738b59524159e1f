use Rattle.node_laws.proofs.Determined as determined
use Rattle.node_laws.proofs.outcome_is_determined.Goals as goal

pub returns : goal.returns
returns c = determined.outcome_is_determined
