use Rattle.std.proofs.Common.{sym, ◌∙◌}
use Rattle.ld_tree.proofs.ViewLemmas.{behind}
use Rattle.ld_tree.proofs.value.place_for.Goals as goal

pub returns-then-is_behind : goal.returns-then-is_behind
returns-then-is_behind c = sym (behind c.args.key.now c.args.pairs.now c.requires (sym c.is_behind.ensures ∙ c.if-is_behind.true))
