use Rattle.std.proofs.Common.{nat_le, ◌+◌, sym, ap, ◌∙◌}
use Rattle.subtree_cut.proofs.Lists.{count_is}
use Rattle.subtree_cut.proofs.legal.ends_before.Goals as goal

pub returns : goal.returns
returns c contexts = c.is_past.ensures ∙ ap (λ n. nat_le (c.args.first.now.from + n) c.args.second.now.from) (sym (count_is c.args.first.now.items.now))
