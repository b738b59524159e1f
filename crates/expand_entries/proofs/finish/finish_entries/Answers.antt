use Rattle.std.proofs.Common.{Ok, ap, sym, ◌∙◌}
use Rattle.expand_types.specs.View.{word_view}
use Rattle.expand_entries.proofs.Plain.{plain_finishes}
use Rattle.expand_entries.proofs.finish.finish_entries.Goals as goal

pub returns-then-are_plain : goal.returns-then-are_plain
returns-then-are_plain c =
    plain_finishes c.args.entries (word_view c.args.property) (sym c.are_plain.ensures ∙ c.if-are_plain.true) ∙ ap (λ x. Ok x) (sym c.unless_nothing.ensures)
