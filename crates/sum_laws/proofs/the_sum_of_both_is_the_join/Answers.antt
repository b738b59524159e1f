use Rattle.sum_laws.proofs.Sums as laws
use Rattle.sum_laws.proofs.the_sum_of_both_is_the_join.Goals as goal

pub returns : goal.returns
returns c = laws.the_sum_of_both_is_the_join
