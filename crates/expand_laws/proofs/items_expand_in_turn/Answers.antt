use Rattle.expand_laws.proofs.Turns as proved
use Rattle.expand_laws.proofs.items_expand_in_turn.Goals as goal

pub returns : goal.returns
returns c = proved.items_expand_in_turn
