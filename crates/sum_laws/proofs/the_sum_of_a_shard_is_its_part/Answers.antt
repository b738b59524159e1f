use Rattle.sum_laws.proofs.Parts as laws
use Rattle.sum_laws.proofs.the_sum_of_a_shard_is_its_part.Goals as goal

pub returns : goal.returns
returns c = laws.the_sum_of_a_shard_is_its_part
