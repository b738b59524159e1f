use Rattle.std.proofs.Common.{sym, ◌∙◌}
use Rattle.subtree_cut.proofs.Lists.{behind_is}
use Rattle.subtree_cut.proofs.grafting.items_behind.Goals as goal

pub returns : goal.returns
returns c contexts = c.saturating_sub.ensures ∙ sym (behind_is c.args.piece.now.items.now)
