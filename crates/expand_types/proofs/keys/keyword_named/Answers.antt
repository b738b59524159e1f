use Rattle.std.proofs.Common.{sym}
use Rattle.case_tables.specs.declared.keyword.Keyword.TheVariants.{Context, Id, TypeWord, Value}
use Rattle.expand_types.proofs.Named.{keyword_is}
use Rattle.expand_types.proofs.keys.keyword_named.Goals as goal

pub returns-in-text : goal.returns-in-text
returns-in-text c = λ s form. sym (keyword_is s Context c.args.key.now c.in-text.is)

pub returns-in-text-2 : goal.returns-in-text-2
returns-in-text-2 c = λ s form. sym (keyword_is s Id c.args.key.now c.in-text-2.is)

pub returns-in-text-3 : goal.returns-in-text-3
returns-in-text-3 c = λ s form. sym (keyword_is s TypeWord c.args.key.now c.in-text-3.is)

pub returns-in-text-4 : goal.returns-in-text-4
returns-in-text-4 c = λ s form. sym (keyword_is s Value c.args.key.now c.in-text-4.is)
