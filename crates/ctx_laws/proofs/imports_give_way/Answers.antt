use Rattle.ctx_laws.proofs.Merging as proved
use Rattle.ctx_laws.proofs.imports_give_way.Goals as goal

pub returns : goal.returns
returns c = proved.imports_give_way
