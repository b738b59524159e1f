use Rattle.flatten_laws.proofs.Proved as proved
use Rattle.flatten_laws.proofs.entries_stand_once.Goals as goal

pub returns : goal.returns
returns c = proved.entries_stand_once
