use Rattle.shard_laws.proofs.Shards as law
use Rattle.shard_laws.proofs.no_node_is_there_twice.Goals as goal

pub returns : goal.returns
returns c = law.no_node_is_there_twice
