use Rattle.division_laws.proofs.Folded as law
use Rattle.division_laws.proofs.folds_of_divisions.Goals as goal

pub returns : goal.returns
returns c = law.folds_of_divisions
