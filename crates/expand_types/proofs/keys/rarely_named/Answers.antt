use Rattle.std.proofs.Common.{sym, ◌∙◌}
use Rattle.expand_types.proofs.Named.{keyword_kept, form_dropped}
use Rattle.expand_types.proofs.keys.rarely_named.Goals as goal

pub returns-in-Some : goal.returns-in-Some
returns-in-Some c = λ other s form. sym (keyword_kept s c.in-Some.word c.args.key.now c.in-Some.ensures.named other)

pub returns-in-None : goal.returns-in-None
returns-in-None c = λ other s form. sym (form_dropped s c.args.key.now form (λ k is. sym c.in-None.is ∙ c.keyword_of.ensures.listed k is))
