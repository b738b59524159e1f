use Rattle.std.proofs.Common.{◌+◌, ◌≡◌, nat_le, nat_lt, false, sym, ap, ◌∙◌, arith}
use Rattle.subtree_cut.proofs.Lists.{count_is, or_rest}
use Rattle.subtree_cut.proofs.legal.lacks_item.Goals as goal

pub returns : goal.returns
returns c contexts =
    let later : nat_lt c.args.number c.args.piece.now.from ≡ false = grind (arith, c.if-number-piece.false) in
    or_rest _ _ _ later (c.is_past.ensures ∙ ap (λ n. nat_le (c.args.piece.now.from + n) c.args.number) (sym (count_is c.args.piece.now.items.now)))
