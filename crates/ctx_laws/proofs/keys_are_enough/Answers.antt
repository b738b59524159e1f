use Rattle.ctx_laws.proofs.Fuel as proved
use Rattle.ctx_laws.proofs.keys_are_enough.Goals as goal

pub returns : goal.returns
returns c = proved.keys_are_enough
