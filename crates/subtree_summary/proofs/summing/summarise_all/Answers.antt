use Rattle.std.proofs.Common.{◌≡◌, [], ◌∷◌, slice_get, sym, ap, ap₂, ◌∙◌}
use Rattle.sum_model.specs.Shards.{in_shard, ops_in}
use Rattle.sum_model.specs.Sums.{placed, sum}
use Rattle.sum_laws.proofs.Sums as laws
use Rattle.op_types.specs.View.{op_view}
use Rattle.subtree_summary.specs.OnTheWay.{SoFar, nothing_said, sums_view}
use Rattle.subtree_summary.proofs.AllTold.{all_told, shards_told, names_told, said_told}
use Rattle.subtree_summary.proofs.Joining.{seen_as}
use Rattle.subtree_summary.proofs.summing.summarise_all.Goals as goal

pub loop-op-init : goal.loop-op-init
loop-op-init c = ap₂ all_told c.into_iter-op-iterator.ensures.into_iter_gives c.in_ok-sums.ensures

pub loop-op-preserved : goal.loop-op-preserved
loop-op-preserved c =
    let rest = c.next.new.self in
    let is : c.loop-op.op-iterator ≡ op_view c.in-Some.op ∷ rest = c.in-Some.ensures.steps in
    ap (all_told rest) c.in_ok-add.ensures
    ∙ ap (λ os. all_told os (sums_view c.loop-op.sums)) (sym is)
    ∙ c.loop-op.invariant

pub returns-clause-parts : goal.returns-clause-parts
returns-clause-parts c =
    let start = nothing_said c.args.chunk c.args.shards in
    let none : c.loop-op.op-iterator ≡ [] = c.in-None.ensures.steps.0 in
    let ends : sums_view c.loop-op.sums ≡ all_told c.args.ops start = ap (λ os. all_told os (sums_view c.loop-op.sums)) (sym none) ∙ c.loop-op.invariant in
    let parts = c.into_summary.ensures.parts in (
      parts.0 ∙ ap (λ (s : SoFar). s.shards) ends ∙ shards_told c.args.ops start,
      λ k. seen_as (slice_get c.into_summary.result.parts.items k) ((sums_view c.loop-op.sums).said k) (sum (ops_in (in_shard c.args.shards k) (placed c.args.chunk c.args.ops)))
          (ap (λ (s : SoFar). s.said k) ends
          ∙ said_told c.args.ops start k
          ∙ laws.join_is_a_monoid.left (sum (ops_in (in_shard c.args.shards k) (placed c.args.chunk c.args.ops))))
          (parts.1 k),
    )

pub returns-clause-uses : goal.returns-clause-uses
returns-clause-uses c =
    let start = nothing_said c.args.chunk c.args.shards in
    let none : c.loop-op.op-iterator ≡ [] = c.in-None.ensures.steps.0 in
    c.into_summary.ensures.uses
    ∙ ap (λ (s : SoFar). s.names) (ap (λ os. all_told os (sums_view c.loop-op.sums)) (sym none) ∙ c.loop-op.invariant)
    ∙ names_told c.args.ops start
