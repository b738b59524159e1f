use Rattle.op_laws.proofs.Numbered as numbered
use Rattle.op_laws.proofs.labels_can_be_numbered_first.Goals as goal

pub returns : goal.returns
returns c = numbered.labels_can_be_numbered_first
