use Rattle.rdf_laws.proofs.Ranges as law
use Rattle.rdf_laws.proofs.the_whole_is_a_range.Goals as goal

pub returns : goal.returns
returns c = law.the_whole_is_a_range
