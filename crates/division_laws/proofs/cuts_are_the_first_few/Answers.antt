use Rattle.division_laws.proofs.Few as law
use Rattle.division_laws.proofs.cuts_are_the_first_few.Goals as goal

pub returns : goal.returns
returns c = law.cuts_are_the_first_few
