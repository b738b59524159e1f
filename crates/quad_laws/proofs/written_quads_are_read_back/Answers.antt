use Rattle.quad_laws.proofs.Whole.{lines_back, whole_back}
use Rattle.quad_laws.proofs.written_quads_are_read_back.Goals as goal

pub returns-clause-lines : goal.returns-clause-lines
returns-clause-lines c = λ qs good. lines_back qs good

pub returns-clause-back : goal.returns-clause-back
returns-clause-back c = λ number qs good. whole_back number qs good
