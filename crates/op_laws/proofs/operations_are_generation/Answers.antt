use Rattle.op_laws.proofs.Divided as divided
use Rattle.op_laws.proofs.operations_are_generation.Goals as goal

pub returns : goal.returns
returns c = divided.operations_are_generation
