use Rattle.op_laws.proofs.Apart as apart
use Rattle.op_laws.proofs.entries_are_told_apart.Goals as goal

pub returns : goal.returns
returns c = apart.entries_are_told_apart
