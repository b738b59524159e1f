use Rattle.sum_laws.proofs.Sums as laws
use Rattle.sum_laws.proofs.join_is_a_monoid.Goals as goal

pub returns : goal.returns
returns c = laws.join_is_a_monoid
