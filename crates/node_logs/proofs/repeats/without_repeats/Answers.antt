use Rattle.std.proofs.Common.{[], refl, sym, ap, ◌∙◌}
use Rattle.node_logs.specs.Once.{kept, none_ahead}
use Rattle.node_logs.proofs.Once.{none_repeats, told-stays}
use Rattle.node_logs.proofs.repeats.without_repeats.Goals as goal

pub returns-then-not-repeats : goal.returns-then-not-repeats
returns-then-not-repeats c = none_repeats c.args.entries (sym c.repeats.ensures ∙ c.if-not-repeats.true)

pub returns : goal.returns
returns c =
    c.in_ok-kept.ensures ∙ ap (λ bs. kept bs c.args.entries) c.in_ok-stay.ensures ∙ sym (told-stays c.args.entries none_ahead [] (λ u other. refl))
