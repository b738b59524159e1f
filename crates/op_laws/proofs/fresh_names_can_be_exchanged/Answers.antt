use Rattle.op_laws.proofs.Exchanged as exchanged
use Rattle.op_laws.proofs.fresh_names_can_be_exchanged.Goals as goal

pub returns : goal.returns
returns c = exchanged.fresh_names_can_be_exchanged
