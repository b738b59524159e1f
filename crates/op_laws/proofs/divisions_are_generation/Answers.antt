use Rattle.op_laws.proofs.Exchanged as exchanged
use Rattle.op_laws.proofs.divisions_are_generation.Goals as goal

pub returns : goal.returns
returns c = exchanged.divisions_are_generation
