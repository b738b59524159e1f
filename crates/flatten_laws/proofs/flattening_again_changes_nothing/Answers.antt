use Rattle.flatten_laws.proofs.Proved as proved
use Rattle.flatten_laws.proofs.flattening_again_changes_nothing.Goals as goal

pub returns : goal.returns
returns c = proved.flattening_again_changes_nothing
