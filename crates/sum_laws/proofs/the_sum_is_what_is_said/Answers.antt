use Rattle.sum_laws.proofs.Determined as laws
use Rattle.sum_laws.proofs.the_sum_is_what_is_said.Goals as goal

pub returns : goal.returns
returns c = laws.the_sum_is_what_is_said
