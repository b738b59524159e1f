use Rattle.rdf_laws.proofs.Needed as law
use Rattle.rdf_laws.proofs.labels_are_counted.Goals as goal

pub returns : goal.returns
returns c = law.labels_are_counted
