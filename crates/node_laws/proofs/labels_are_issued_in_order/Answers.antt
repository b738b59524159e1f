use Rattle.node_laws.proofs.Labels as labels
use Rattle.node_laws.proofs.labels_are_issued_in_order.Goals as goal

pub returns : goal.returns
returns c = labels.labels_are_issued_in_order
