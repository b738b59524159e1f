use Rattle.rdf_terms.proofs.Zeros.{trim_end_of_zeros}
use Rattle.rdf_terms.proofs.number.trimmed.Goals as goal

pub returns : goal.returns
returns c = trim_end_of_zeros c.args.digits.now c.trim_end_matches.result.now c.trim_end_matches.ensures.matches
