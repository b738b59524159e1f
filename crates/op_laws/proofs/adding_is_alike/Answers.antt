use Rattle.op_laws.proofs.Added as added
use Rattle.op_laws.proofs.adding_is_alike.Goals as goal

pub returns : goal.returns
returns c = added.adding_is_alike
