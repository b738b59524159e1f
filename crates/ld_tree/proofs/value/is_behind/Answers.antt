use Rattle.std.proofs.Common.{ap, sym, ◌∙◌}
use Rattle.std.specs.Ordering.{is_lt}
use Rattle.std.specs.Option.{option_copied}
use Rattle.ld_tree.proofs.ViewLemmas.{is_last_before-view}
use Rattle.ld_tree.proofs.value.is_behind.Goals as goal

pub returns-in-Some : goal.returns-in-Some
returns-in-Some c =
    let last = is_last_before-view c.args.key.now c.args.pairs.now c.in-Some.pair.now (sym c.last.ensures.value ∙ ap option_copied c.in-Some.is) in
    c.is_lt.ensures ∙ ap is_lt c.compare_key.ensures ∙ sym last
