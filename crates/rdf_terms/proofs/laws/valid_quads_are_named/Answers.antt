use Rattle.rdf_terms.proofs.QuadLaws.{HasNames-from_valid}
use Rattle.rdf_terms.proofs.laws.valid_quads_are_named.Goals as goal

pub returns : goal.returns
returns c = HasNames-from_valid
