use Rattle.sum_laws.proofs.Read as laws
use Rattle.sum_laws.proofs.the_index_is_the_first_one_set.Goals as goal

pub returns : goal.returns
returns c = laws.indexes_are_said
