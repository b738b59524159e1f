use Rattle.std.proofs.Common.{◌∙◌, ap, rules, subst, sym}
use Rattle.iri_ref.specs.Parts.{EndAtMarks, IriParts}
use Rattle.iri_ref.specs.Resolve.{text_of}
use Rattle.iri_ref.proofs.Laws.{text_of-parts_of}
use Rattle.iri_ref.proofs.Marks.{parts_end}
use Rattle.iri_ref.proofs.reference.split.Goals as goal

pub returns-clause-parts : goal.returns-clause-parts
returns-clause-parts c = search rules

pub returns-clause-nothing_lost : goal.returns-clause-nothing_lost
returns-clause-nothing_lost c = ap text_of (returns-clause-parts c) ∙ text_of-parts_of c.args.text.now

pub returns-clause-marks : goal.returns-clause-marks
returns-clause-marks c = subst (λ (p : IriParts). EndAtMarks p) (sym (returns-clause-parts c)) (parts_end c.args.text.now)
