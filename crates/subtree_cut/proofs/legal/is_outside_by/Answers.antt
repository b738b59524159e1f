use Rattle.std.proofs.Common.{sym, ◌∙◌}
use Rattle.subtree_cut.specs.View.{piece_view}
use Rattle.subtree_cut.proofs.Lists.{or_first, or_rest}
use Rattle.subtree_cut.proofs.Outside.{beside, inside}
use Rattle.subtree_cut.proofs.legal.is_outside_by.Goals as goal

pub returns-then-ends_before : goal.returns-then-ends_before
returns-then-ends_before c contexts =
    or_first _ _ _ (c.ends_before.ensures contexts) c.if-ends_before.true
    ∙ sym (beside (piece_view contexts c.args.first.now) (piece_view contexts c.args.second.now) c.args.way.now c.in-None.ensures.cases)

pub returns-else-ends_before : goal.returns-else-ends_before
returns-else-ends_before c contexts =
    or_rest _ _ _ (sym (c.ends_before.ensures contexts) ∙ c.if-ends_before.false) (c.ends_before-else-ends_before.ensures contexts)
    ∙ sym (beside (piece_view contexts c.args.first.now) (piece_view contexts c.args.second.now) c.args.way.now c.in-None.ensures.cases)

pub returns-in-Item : goal.returns-in-Item
returns-in-Item c contexts =
    c.lacks_item.ensures contexts
    ∙ inside (piece_view contexts c.args.first.now) (piece_view contexts c.args.second.now) c.args.way.now c.in-Some.field-0-1.now c.in-Some.step.now c.in-Item.number c.in-Some.ensures.cases.0 c.in-Item.is
