use Rattle.std.proofs.Common.{◌≡◌, ◌-◌, ◌^◌, min, true, sym, ap, ◌∙◌, arith}
use Rattle.std.specs.Prelude.{if◌then◌else◌}
use Rattle.ld_model.specs.Tree.{weight, trees_of}
use Rattle.ld_tree.specs.View.{view, trees_view}
use Rattle.cut_model.specs.Planning.{is_light, taken_behind, takes_range, tries_item}
use Rattle.subtree_cut.proofs.Weighed.{taken_same}
use Rattle.subtree_cut.proofs.choosing.cut_choice.Goals as goal

pub returns-then-weighed-limit : goal.returns-then-weighed-limit
returns-then-weighed-limit c =
    let weighed = c.with_weight-weighed.ensures in
    let same : min c.with_weight-weighed.result (2 ^ 64 - 1) ≡ min (weight (view c.args.first.now)) (2 ^ 64 - 1) = grind (arith, weighed, c.if-weighed-limit.true) in
    let light : is_light c.args.limit (weight (view c.args.first.now)) ≡ true = grind (arith, weighed, c.if-weighed-limit.true) in
    ap takes_range (c.taken_behind.ensures ∙ taken_same c.args.limit c.with_weight-weighed.result (weight (view c.args.first.now)) (trees_of (trees_view c.args.behind.now)) same)
    ∙ sym (ap (λ b. if b then takes_range (taken_behind c.args.limit (weight (view c.args.first.now)) (trees_of (trees_view c.args.behind.now))) else tries_item) light)
