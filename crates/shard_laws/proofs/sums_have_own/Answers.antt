use Rattle.shard_laws.proofs.Owned as law
use Rattle.shard_laws.proofs.sums_have_own.Goals as goal

pub returns : goal.returns
returns c = law.sums_have_own
