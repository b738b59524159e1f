use Rattle.sum_laws.proofs.Uses as laws
use Rattle.sum_laws.proofs.each_name_has_a_shard.Goals as goal

pub returns : goal.returns
returns c = laws.each_name_has_a_shard
