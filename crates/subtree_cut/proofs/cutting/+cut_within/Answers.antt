use Rattle.std.proofs.Common.{◌≡◌, ◌-◌, nat_le, true, false, length, sym, ap, ◌∙◌, arith}
use Rattle.ld_tree.specs.View.{view}
use Rattle.expand_types.specs.View.{options_view}
use Rattle.cut_model.specs.Cutting.{most_pieces, cut_within}
use Rattle.subtree_cut.proofs.Noted.{done_at_last, done_if_few, doubled}
use Rattle.subtree_cut.proofs.Stopped.{same_plan, many_planned}
use Rattle.subtree_cut.proofs.cutting.+cut_within.Goals as goal

pub returns-then-times-eq0 : goal.returns-then-times-eq0
returns-then-times-eq0 t c = ap (λ p. p.pieces) c.in_ok-whole.ensures ∙ done_at_last (options_view c.args.options.now) (view c.args.tree.now) c.args.limit c.args.times (omega (arith, c.if-times-eq0.true))

pub returns-then-len-le-MOST_PIECES : goal.returns-then-len-le-MOST_PIECES
returns-then-len-le-MOST_PIECES t c =
    let few : nat_le (length c.in_ok-planner.planner.pieces) most_pieces ≡ true = grind (arith, c.len.ensures, c.if-len-le-MOST_PIECES.true) in
    let is = same_plan (options_view c.args.options.now) (view c.args.tree.now) c.args.limit c.in_ok-planner.planner c.in_ok-planner.ensures few in
    sym is ∙ done_if_few (options_view c.args.options.now) (view c.args.tree.now) c.args.limit c.args.times (ap (λ ps. nat_le (length ps) most_pieces) is ∙ few)

pub returns : goal.returns
returns t c =
    let many : nat_le (length c.in_ok-planner.planner.pieces) most_pieces ≡ false = grind (arith, c.len.ensures, c.if-len-le-MOST_PIECES.false) in
    c.in_ok-doubled.ensures
    ∙ ap (λ l. cut_within (c.args.times - 1) (options_view c.args.options.now) (view c.args.tree.now) l) c.saturating_mul.ensures
    ∙ doubled (options_view c.args.options.now) (view c.args.tree.now) c.args.limit c.args.times (omega (arith, c.if-times-eq0.false))
    (many_planned (options_view c.args.options.now) (view c.args.tree.now) c.args.limit c.in_ok-planner.planner c.in_ok-planner.ensures many)
