use Rattle.sum_laws.proofs.Places as laws
use Rattle.sum_laws.proofs.chunks_are_in_order.Goals as goal

pub returns : goal.returns
returns c = laws.chunks_are_in_order
