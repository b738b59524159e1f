use Rattle.sum_laws.proofs.Determined as laws
use Rattle.sum_laws.proofs.nothing_stands_twice.Goals as goal

pub returns : goal.returns
returns c = laws.nothing_stands_twice
