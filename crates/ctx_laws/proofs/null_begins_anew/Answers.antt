use Rattle.ctx_laws.proofs.Turns as proved
use Rattle.ctx_laws.proofs.null_begins_anew.Goals as goal

pub returns : goal.returns
returns c = proved.null_begins_anew
