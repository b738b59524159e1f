use Rattle.node_laws.proofs.Renaming as renaming
use Rattle.node_laws.proofs.renaming_labels_changes_nothing.Goals as goal

pub returns : goal.returns
returns c = renaming.renaming_labels_changes_nothing
