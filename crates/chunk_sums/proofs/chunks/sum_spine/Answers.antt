use Rattle.std.proofs.Common.{◌≡◌, [], ◌∷◌, sym, ap, ap₂, ◌∙◌}
use Rattle.op_types.specs.View.{op_view}
use Rattle.subtree_summary.specs.OnTheWay.{sums_view}
use Rattle.subtree_summary.proofs.AllTold.{all_told}
use Rattle.chunk_sums.proofs.Told.{all_said}
use Rattle.chunk_sums.proofs.chunks.sum_spine.Goals as goal

pub loop-op-init : goal.loop-op-init
loop-op-init c = ap₂ all_told c.into_iter-op-iterator.ensures.into_iter_gives c.turn_to.ensures

pub loop-op-preserved : goal.loop-op-preserved
loop-op-preserved c =
    let rest = c.next.new.self in
    let is : c.loop-op.op-iterator ≡ op_view c.in-Some.op.now ∷ rest = c.in-Some.ensures.steps in
    ap (all_told rest) c.in_ok-tell.ensures
    ∙ ap (λ os. all_told os (sums_view c.loop-op.sums)) (sym is)
    ∙ c.loop-op.invariant

pub returns : goal.returns
returns c =
    let none : c.loop-op.op-iterator ≡ [] = c.in-None.ensures.steps.0 in
    ap (λ os. all_told os (sums_view c.loop-op.sums)) (sym none) ∙ c.loop-op.invariant ∙ all_said c.args.number (sums_view c.args.before) c.args.ops.now
