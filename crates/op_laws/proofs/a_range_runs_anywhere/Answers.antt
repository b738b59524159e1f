use Rattle.op_laws.proofs.Divided as divided
use Rattle.op_laws.proofs.a_range_runs_anywhere.Goals as goal

pub returns : goal.returns
returns c = divided.a_range_runs_anywhere
