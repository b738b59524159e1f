use Rattle.flatten_laws.proofs.Proved as proved
use Rattle.flatten_laws.proofs.entries_keep_their_order.Goals as goal

pub returns : goal.returns
returns c = proved.entries_keep_their_order
