use Rattle.shard_laws.proofs.Chunks as law
use Rattle.shard_laws.proofs.numbers_are_those_in_labels.Goals as goal

pub returns : goal.returns
returns c = law.numbers_are_those_in_labels
