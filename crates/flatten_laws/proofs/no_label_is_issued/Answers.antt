use Rattle.flatten_laws.proofs.Proved as proved
use Rattle.flatten_laws.proofs.no_label_is_issued.Goals as goal

pub returns : goal.returns
returns c = proved.no_label_is_issued
