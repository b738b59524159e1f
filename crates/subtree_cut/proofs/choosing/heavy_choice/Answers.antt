use Rattle.std.proofs.Common.{◌≡◌, nat_lt, true, length, ◌∙◌, arith}
use Rattle.ld_tree.specs.View.{view}
use Rattle.subtree_cut.proofs.Weighed.{heavy_cut}
use Rattle.subtree_cut.proofs.choosing.heavy_choice.Goals as goal

pub returns : goal.returns
returns c =
    let some : nat_lt 0 (length c.args.behind.now) ≡ true = grind (arith, c.is_empty.ensures, c.if-is_empty.false) in
    c.cut_choice.ensures ∙ heavy_cut c.args.limit (view c.args.first.now) c.args.behind.now some
