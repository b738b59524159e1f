use Rattle.sum_laws.proofs.Read as laws
use Rattle.sum_laws.proofs.entries_are_those_added.Goals as goal

pub returns : goal.returns
returns c = laws.entries_are_said
