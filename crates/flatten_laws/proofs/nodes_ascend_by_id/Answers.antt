use Rattle.flatten_laws.proofs.Ids as ids
use Rattle.flatten_laws.proofs.nodes_ascend_by_id.Goals as goal

pub returns : goal.returns
returns c = ids.nodes_ascend_by_id
