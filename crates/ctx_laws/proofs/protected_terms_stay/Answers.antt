use Rattle.ctx_laws.proofs.Protection as proved
use Rattle.ctx_laws.proofs.protected_terms_stay.Goals as goal

pub returns : goal.returns
returns c = proved.protected_terms_stay
