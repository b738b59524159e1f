use Rattle.node_laws.proofs.Stated as stated
use Rattle.node_laws.proofs.node_maps_are_as_stated.Goals as goal

pub returns : goal.returns
returns c = stated.node_maps_are_as_stated
