use Rattle.op_laws.proofs.FirstConflict as first_conflict
use Rattle.op_laws.proofs.the_first_conflict_is_told.Goals as goal

pub returns : goal.returns
returns c = first_conflict.the_first_conflict_is_told
