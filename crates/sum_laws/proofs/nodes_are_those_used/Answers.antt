use Rattle.sum_laws.proofs.Read as laws
use Rattle.sum_laws.proofs.nodes_are_those_used.Goals as goal

pub returns : goal.returns
returns c = laws.nodes_are_said
