use Rattle.op_laws.proofs.Apart as apart
use Rattle.op_laws.proofs.names_are_told_apart.Goals as goal

pub returns : goal.returns
returns c = apart.names_are_told_apart
