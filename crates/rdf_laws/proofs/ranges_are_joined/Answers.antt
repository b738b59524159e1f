use Rattle.rdf_laws.proofs.Ranges as law
use Rattle.rdf_laws.proofs.ranges_are_joined.Goals as goal

pub returns : goal.returns
returns c = law.ranges_are_joined
