use Rattle.ctx_laws.proofs.Nothing as proved
use Rattle.ctx_laws.proofs.nothing_changes_nothing.Goals as goal

pub returns : goal.returns
returns c = proved.nothing_changes_nothing
