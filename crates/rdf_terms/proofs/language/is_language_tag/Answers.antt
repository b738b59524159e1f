use Rattle.std.proofs.Common.{◌∙◌, lit<, rules, tests}
use Rattle.std.proofs.lemmas.Iterator.Search.{all_from_yields_List}
use Rattle.std.proofs.lemmas.Iterator.Splits.{YieldsList-from_str_split}
use Rattle.rdf_terms.specs.Language.{is_letters_or_digits}
use Rattle.rdf_terms.proofs.Parts.{tag_by_rest, tag_refused, tag_without_hyphen}
use Rattle.rdf_terms.proofs.language.is_language_tag.Goals as goal

pub returns-then-is_letters : goal.returns-then-is_letters
returns-then-is_letters c =
    let parts = c.in-Some.ensures.byte (lit< tt) (λ w o f. f) in
    let all = all_from_yields_List is_letters_or_digits _ _ c.all.result c.all.ensures.ran (YieldsList-from_str_split 45 c.in-Some.rest.now (lit< tt) c.split.ensures.text c.split.ensures.has_more c.split.ensures.pattern) (λ x b q k. search (rules, tests)) in
    tag_by_rest c.args.text.now c.in-Some.first.now c.in-Some.rest.now c.is_letters.result c.all.result parts c.is_letters.ensures c.if-is_letters.true all

pub returns-else-is_letters : goal.returns-else-is_letters
returns-else-is_letters c =
    let parts = c.in-Some.ensures.byte (lit< tt) (λ w o f. f) in
    tag_refused c.args.text.now c.in-Some.first.now c.in-Some.rest.now c.is_letters.result parts c.is_letters.ensures c.if-is_letters.false

pub returns-in-None : goal.returns-in-None
returns-in-None c =
    c.is_letters-in-None.ensures ∙ tag_without_hyphen c.args.text.now (c.in-None.ensures.byte (lit< tt) (λ w o f. f))
