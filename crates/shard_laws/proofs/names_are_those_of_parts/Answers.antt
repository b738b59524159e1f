use Rattle.shard_laws.proofs.Chunks as law
use Rattle.shard_laws.proofs.names_are_those_of_parts.Goals as goal

pub returns : goal.returns
returns c = law.names_are_those_of_parts
