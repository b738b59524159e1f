use Rattle.op_laws.proofs.Sound as sound
use Rattle.op_laws.proofs.operations_are_sound.Goals as goal

pub returns : goal.returns
returns c = sound.operations_are_sound
