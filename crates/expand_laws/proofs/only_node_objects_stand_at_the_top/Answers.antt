use Rattle.expand_laws.proofs.TopNodes as proved
use Rattle.expand_laws.proofs.only_node_objects_stand_at_the_top.Goals as goal

pub returns : goal.returns
returns c = proved.only_node_objects_stand_at_the_top
