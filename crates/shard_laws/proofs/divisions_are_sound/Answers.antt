use Rattle.shard_laws.proofs.Chunks as law
use Rattle.shard_laws.proofs.divisions_are_sound.Goals as goal

pub returns : goal.returns
returns c = law.divisions_are_sound
