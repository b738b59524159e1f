use Rattle.cut_laws.proofs.Theorems as theorems
use Rattle.cut_laws.proofs.legal_plans_are_told.Goals as goal

pub returns : goal.returns
returns c = theorems.legal_plans_are_told
