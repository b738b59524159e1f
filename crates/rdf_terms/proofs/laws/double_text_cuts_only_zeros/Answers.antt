use Rattle.rdf_terms.proofs.QuadLaws.{zeros_cut}
use Rattle.rdf_terms.proofs.Zeros.{zero_last}
use Rattle.rdf_terms.proofs.laws.double_text_cuts_only_zeros.Goals as goal

pub returns-clause-zeros : goal.returns-clause-zeros
returns-clause-zeros c = zeros_cut

pub returns-clause-all : goal.returns-clause-all
returns-clause-all c = zero_last
