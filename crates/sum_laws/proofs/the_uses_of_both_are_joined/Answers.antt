use Rattle.sum_laws.proofs.Uses as laws
use Rattle.sum_laws.proofs.the_uses_of_both_are_joined.Goals as goal

pub returns : goal.returns
returns c = laws.the_uses_of_both_are_joined
