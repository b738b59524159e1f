use Rattle.node_laws.proofs.Issued as issued
use Rattle.node_laws.proofs.blank_nodes_have_issued_labels.Goals as goal

pub returns : goal.returns
returns c = issued.blank_nodes_have_issued_labels
