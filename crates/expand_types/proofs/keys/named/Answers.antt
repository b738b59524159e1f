use Rattle.std.proofs.Common.{ap, sym, ◌∙◌}
use Rattle.expand_model.specs.Entries.{name_as}
use Rattle.expand_types.proofs.Named.{name_found}
use Rattle.expand_types.proofs.keys.named.Goals as goal

pub returns-in-Some : goal.returns-in-Some
returns-in-Some c =
    sym (name_found c.args.iri c.as_str.result.now c.keyword_of.result c.as_str.ensures c.keyword_of.ensures.listed c.keyword_of.ensures.named ∙ ap (λ r. name_as r c.args.iri) c.in-Some.is)

pub returns-in-None : goal.returns-in-None
returns-in-None c =
    c.property_named.ensures ∙ sym (name_found c.args.iri c.as_str.result.now c.keyword_of.result c.as_str.ensures c.keyword_of.ensures.listed c.keyword_of.ensures.named ∙ ap (λ r. name_as r c.args.iri) c.in-None.is)
