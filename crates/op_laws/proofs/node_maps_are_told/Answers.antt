use Rattle.op_laws.proofs.Told as told
use Rattle.op_laws.proofs.node_maps_are_told.Goals as goal

pub returns : goal.returns
returns c = told.node_maps_are_told
