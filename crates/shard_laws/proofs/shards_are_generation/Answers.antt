use Rattle.shard_laws.proofs.Chunks as law
use Rattle.shard_laws.proofs.shards_are_generation.Goals as goal

pub returns : goal.returns
returns c = law.shards_are_generation
