use Rattle.sum_laws.proofs.Same as laws
use Rattle.sum_laws.proofs.same_entries_are_equal.Goals as goal

pub returns : goal.returns
returns c = laws.same_entries_are_equal
