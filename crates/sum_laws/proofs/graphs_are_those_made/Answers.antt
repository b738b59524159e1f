use Rattle.sum_laws.proofs.Read as laws
use Rattle.sum_laws.proofs.graphs_are_those_made.Goals as goal

pub returns : goal.returns
returns c = laws.graphs_are_said
