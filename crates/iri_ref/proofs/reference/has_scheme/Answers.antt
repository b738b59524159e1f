use Rattle.std.proofs.Common.{◌∙◌}
use Rattle.iri_ref.proofs.Forms.{has_scheme-is}
use Rattle.iri_ref.proofs.reference.has_scheme.Goals as goal

pub returns-clause-bytes : goal.returns-clause-bytes
returns-clause-bytes c = c.begins_with_scheme.ensures ∙ has_scheme-is c.args.text.now
