use Rattle.flatten_laws.proofs.Proved as proved
use Rattle.flatten_laws.proofs.outcome_is_determined.Goals as goal

pub returns : goal.returns
returns c = proved.outcome_is_determined
