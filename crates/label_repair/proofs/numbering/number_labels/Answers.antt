use Rattle.std.proofs.Common.{sym, ap, ◌∙◌}
use Rattle.std.proofs.lemmas.List.{drop_all}
use Rattle.label_repair.proofs.Parts.{named_by, all_named}
use Rattle.label_repair.proofs.numbering.number_labels.Goals as goal

pub returns : goal.returns
returns c =
    sym (ap (named_by c.loop-part.labels) (drop_all c.loop-part.part-index c.args.uses.now c.loop-part-test.false))
    ∙ c.loop-part.invariant
    ∙ all_named c.args.uses.now
