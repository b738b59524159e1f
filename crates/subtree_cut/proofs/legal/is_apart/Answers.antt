use Rattle.std.proofs.Common.{◌≡◌, nat_lt, true, length, ap, ◌∙◌, arith}
use Rattle.subtree_cut.proofs.Lists.{count_is, and_rest}
use Rattle.subtree_cut.proofs.legal.is_apart.Goals as goal

pub returns-then-not-is_empty : goal.returns-then-not-is_empty
returns-then-not-is_empty c contexts =
    let some : nat_lt 0 (length c.args.piece.now.items.now) ≡ true = grind (arith, c.is_empty.ensures, c.if-not-is_empty.true) in
    c.is_apart_from.ensures contexts ∙ and_rest _ _ (ap (nat_lt 0) (count_is c.args.piece.now.items.now) ∙ some)
