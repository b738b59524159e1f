use Rattle.node_laws.proofs.Conflicts as conflicts
use Rattle.node_laws.proofs.the_first_conflict_stays.Goals as goal

pub returns : goal.returns
returns c = conflicts.the_first_conflict_stays
