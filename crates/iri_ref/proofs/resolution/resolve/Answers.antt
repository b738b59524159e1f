use Rattle.iri_ref.proofs.Laws.{resolved_alone}
use Rattle.std.proofs.Common.{◌∙◌, rules}
use Rattle.iri_ref.proofs.resolution.resolve.Goals as goal

pub returns-clause-target : goal.returns-clause-target
returns-clause-target c = search rules

pub returns-clause-base_ignored : goal.returns-clause-base_ignored
returns-clause-base_ignored c iri other = returns-clause-target c ∙ resolved_alone c.args.base.now other c.args.reference.now iri
