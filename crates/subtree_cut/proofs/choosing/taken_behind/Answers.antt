use Rattle.std.proofs.Common.{◌≡◌, ◌+◌, ◌-◌, ◌^◌, min, true, sym, ap, ◌∙◌, arith}
use Rattle.ld_model.specs.Tree.{weight}
use Rattle.ld_tree.specs.View.{view}
use Rattle.cut_model.specs.Planning.{is_light}
use Rattle.subtree_cut.proofs.Weighed.{takes_next, one_on}
use Rattle.subtree_cut.proofs.choosing.taken_behind.Goals as goal

pub loop-number-preserved : goal.loop-number-preserved
loop-number-preserved c =
    let weighed = c.with_weight-sum.ensures in
    let same : min c.with_weight-sum.result (2 ^ 64 - 1) ≡ min (c.loop-number.sum + weight (view c.index-behind-number.result)) (2 ^ 64 - 1) = grind (arith, weighed, c.if-sum-limit.false) in
    let light : is_light c.args.limit (c.loop-number.sum + weight (view c.index-behind-number.result)) ≡ true = grind (arith, weighed, c.if-sum-limit.false) in
    one_on c.loop-number.number _
    ∙ ap (λ n. c.loop-number.number + n) (sym (takes_next c.args.limit c.loop-number.sum c.with_weight-sum.result c.args.behind.now c.loop-number.number c.index-behind-number.result c.loop-number-test.true c.index-behind-number.is same light))
    ∙ c.loop-number.invariant
