use Rattle.sum_laws.proofs.Same as laws
use Rattle.sum_laws.proofs.same_names_are_equal.Goals as goal

pub returns : goal.returns
returns c = laws.same_names_are_equal
