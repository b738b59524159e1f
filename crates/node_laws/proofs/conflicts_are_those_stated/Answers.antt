use Rattle.node_laws.proofs.Stated as stated
use Rattle.node_laws.proofs.conflicts_are_those_stated.Goals as goal

pub returns : goal.returns
returns c = stated.conflicts_are_those_stated
