use Rattle.op_laws.proofs.Owned as owned
use Rattle.op_laws.proofs.sound_names_have_own_labels.Goals as goal

pub returns : goal.returns
returns c = owned.sound_names_have_own_labels
