use Rattle.quad_laws.proofs.Statements.{said_back}
use Rattle.quad_laws.proofs.Whole.{quad_is_line}
use Rattle.quad_laws.proofs.a_written_quad_is_read_back.Goals as goal

pub returns-clause-line : goal.returns-clause-line
returns-clause-line c = λ q. quad_is_line q

pub returns-clause-back : goal.returns-clause-back
returns-clause-back c = λ q good. said_back q good
