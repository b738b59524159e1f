use Rattle.std.proofs.Common.{◌≡◌, sym, ◌∙◌, arith}
use Rattle.subtree_cut.proofs.Weighed.{light_passed}
use Rattle.subtree_cut.proofs.choosing.choose.Goals as goal

pub returns-then-is_light : goal.returns-then-is_light
returns-then-is_light c =
    let first : c.args.number ≡ 0 = omega (arith, c.if-number-gt0.false) in
    light_passed c.args.limit c.args.rest.now c.in-Some.behind.now c.in-Some.first.now c.args.number c.in-Some.ensures.cases.0 first (sym c.is_light.ensures ∙ c.if-is_light.true)
