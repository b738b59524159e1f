use Rattle.std.proofs.Common.{◌∙◌, sym, rules, ap}
use Rattle.std.specs.Option.{option_copied}
use Rattle.iri_ref.specs.Dots.{is_dots}
use Rattle.iri_ref.proofs.Walk.{no_dots_lead, dots_lead}
use Rattle.iri_ref.proofs.dots.without_leading_dots.Goals as goal

pub returns-then-not-is_dots-clause-same : goal.returns-then-not-is_dots-clause-same
returns-then-not-is_dots-clause-same c =
    sym c.loop-after.invariant.1
    ∙ no_dots_lead c.loop-after.rest.now (ap is_dots (sym c.cut.ensures.front) ∙ sym c.is_dots.ensures ∙ c.if-not-is_dots.true)

pub loop-after-preserved : goal.loop-after-preserved
loop-after-preserved c = (
  search rules,
  dots_lead c.loop-after.rest.now c.in-Some.text.now (ap option_copied (sym c.in-Some.is) ∙ c.cut.ensures.rest) (ap is_dots (sym c.cut.ensures.front) ∙ sym c.is_dots.ensures ∙ c.if-not-is_dots.false)
      ∙ c.loop-after.invariant.1,
)
