use Rattle.op_laws.proofs.Numbered as numbered
use Rattle.op_laws.proofs.first_uses_are_enough.Goals as goal

pub returns : goal.returns
returns c = numbered.first_uses_are_enough
