use Rattle.rdf_laws.proofs.Needed as law
use Rattle.rdf_laws.proofs.labels_are_needed.Goals as goal

pub returns : goal.returns
returns c = law.next_is_needed
