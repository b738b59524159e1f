use Rattle.quad_laws.proofs.Line.{written_lines}
use Rattle.quad_laws.proofs.written_quads_are_lines_of_the_grammar.Goals as goal

pub returns : goal.returns
returns c = λ qs good. written_lines qs good
