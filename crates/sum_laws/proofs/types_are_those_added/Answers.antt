use Rattle.sum_laws.proofs.Read as laws
use Rattle.sum_laws.proofs.types_are_those_added.Goals as goal

pub returns : goal.returns
returns c = laws.types_are_said
