use Rattle.quad_laws.proofs.Line.{line_of, line_read, one_of, bad_of}
use Rattle.quad_laws.proofs.lines_are_read_by_the_grammar.Goals as goal

pub returns-clause-read : goal.returns-clause-read
returns-clause-read c = λ line q is. line_of line q is

pub returns-clause-reads : goal.returns-clause-reads
returns-clause-reads c = λ line q is. line_read line q is

pub returns-clause-one : goal.returns-clause-one
returns-clause-one c = λ line q r first second. one_of line q r first second

pub returns-clause-bad : goal.returns-clause-bad
returns-clause-bad c = λ line at q is stands. bad_of line at q is stands
