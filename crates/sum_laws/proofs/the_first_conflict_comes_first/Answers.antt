use Rattle.sum_laws.proofs.Conflicts as laws
use Rattle.sum_laws.proofs.the_first_conflict_comes_first.Goals as goal

pub returns : goal.returns
returns c = laws.the_first_conflict_comes_first
