use Rattle.sum_laws.proofs.ShardConflicts as laws
use Rattle.sum_laws.proofs.the_first_conflict_is_that_of_a_shard.Goals as goal

pub returns : goal.returns
returns c = laws.the_first_conflict_is_that_of_a_shard
