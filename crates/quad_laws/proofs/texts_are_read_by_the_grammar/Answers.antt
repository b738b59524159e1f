use Rattle.quad_laws.proofs.Line.{lines_of, lines_read}
use Rattle.quad_laws.proofs.texts_are_read_by_the_grammar.Goals as goal

pub returns-clause-read : goal.returns-clause-read
returns-clause-read c = λ number ls qs is. lines_of number ls qs is

pub returns-clause-reads : goal.returns-clause-reads
returns-clause-reads c = λ number ls qs is. lines_read number ls qs is
