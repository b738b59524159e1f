use Rattle.std.proofs.Common.{sym, ap, ◌∙◌}
use Rattle.std.specs.Prelude.{slice_get}
use Rattle.expand_model.specs.Over.{answers}
use Rattle.expand_types.specs.View.{trail_view}
use Rattle.tree_expand.specs.View.{given_view}
use Rattle.subtree_cut.proofs.InOrder.{passes_if, takes_if}
use Rattle.subtree_cut.proofs.grafting.CursorRanges.ask.Goals as goal

pub returns-then-begins-clause-answer : goal.returns-then-begins-clause-answer
returns-then-begins-clause-answer c =
    ap (λ k. answers k (given_view c.in-Some-next.outcome)) (c.items_behind-more.ensures c.args.self.now.plan.now.contexts.items)
    ∙ ap (λ q. q.answer) (takes_if c.args.self.now c.in-Some.piece.now (trail_view c.args.at.now.trail.now) c.args.number _ (c.in-Some.ensures ∙ ap (λ xs. slice_get xs c.args.self.now.next) c.as_slice.ensures.value) (sym (c.begins.ensures c.args.self.now.plan.now.contexts.items) ∙ c.if-begins.true) c.in-Some-next.ensures)

pub returns-then-begins-clause-state : goal.returns-then-begins-clause-state
returns-then-begins-clause-state c =
    ap (λ q. q.state) (takes_if c.args.self.now c.in-Some.piece.now (trail_view c.args.at.now.trail.now) c.args.number _ (c.in-Some.ensures ∙ ap (λ xs. slice_get xs c.args.self.now.next) c.as_slice.ensures.value) (sym (c.begins.ensures c.args.self.now.plan.now.contexts.items) ∙ c.if-begins.true) c.in-Some-next.ensures)

pub returns-clause-answer : goal.returns-clause-answer
returns-clause-answer c = ap (λ q. q.answer) (passes_if c.args.self.now c.in-Some.piece.now (trail_view c.args.at.now.trail.now) c.args.number (c.in-Some.ensures ∙ ap (λ xs. slice_get xs c.args.self.now.next) c.as_slice.ensures.value) (sym (c.begins.ensures c.args.self.now.plan.now.contexts.items) ∙ c.if-begins.false))

pub returns-clause-state : goal.returns-clause-state
returns-clause-state c = ap (λ q. q.state) (passes_if c.args.self.now c.in-Some.piece.now (trail_view c.args.at.now.trail.now) c.args.number (c.in-Some.ensures ∙ ap (λ xs. slice_get xs c.args.self.now.next) c.as_slice.ensures.value) (sym (c.begins.ensures c.args.self.now.plan.now.contexts.items) ∙ c.if-begins.false))
