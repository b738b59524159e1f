use Rattle.sum_laws.proofs.Read as laws
use Rattle.sum_laws.proofs.properties_are_those_named.Goals as goal

pub returns : goal.returns
returns c = laws.properties_are_said
