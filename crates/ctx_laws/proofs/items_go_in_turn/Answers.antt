use Rattle.ctx_laws.proofs.Turns as proved
use Rattle.ctx_laws.proofs.items_go_in_turn.Goals as goal

pub returns : goal.returns
returns c = proved.items_go_in_turn
