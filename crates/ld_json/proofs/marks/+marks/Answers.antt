use Rattle.std.proofs.Common.{◌≡◌, ◌+◌, drop, Some, option_map, sym, ap, ◌∙◌, rules}
use Rattle.std.specs.Prelude.{slice_get}
use Rattle.ld_model.specs.Tree.{trees_of}
use Rattle.ld_tree.specs.View.{view}
use Rattle.ld_json.specs.declared.location.Step.TheVariants.{Item}
use Rattle.ld_json.specs.Marks.{misplaced_items, under, or_else}
use Rattle.ld_json.proofs.Marked.{value_weighs, misplaced_next}
use Rattle.ld_json.proofs.marks.+marks.Goals as goal

pub misplaced_items-misplaced-requires : goal.misplaced_items-misplaced-requires
misplaced_items-misplaced-requires t c =
    let at : slice_get c.args.trees.now c.loop-number.number ≡ Some (view c.in-Some.tree.now) = sym c.get.ensures ∙ ap (option_map (λ x. view x.now)) c.in-Some.is in
    let weighs = value_weighs c.args.trees.now c.loop-number.number (view c.in-Some.tree.now) at in
    (search rules, tt)

pub misplaced_items-returns-in-Some-2 : goal.misplaced_items-returns-in-Some-2
misplaced_items-returns-in-Some-2 t c =
    let at : slice_get c.args.trees.now c.loop-number.number ≡ Some (view c.in-Some.tree.now) = sym c.get.ensures ∙ ap (option_map (λ x. view x.now)) c.in-Some.is in
    let next = misplaced_next c.args.trees.now c.loop-number.number (view c.in-Some.tree.now) at in
    let found = sym c.in_ok-place.ensures ∙ c.in-Some-2.is in
    ap Some c.in_ok-under.ensures ∙ ap (λ p. or_else (under (Item c.loop-number.number) p) (misplaced_items (c.loop-number.number + 1) (trees_of (drop (c.loop-number.number + 1) c.args.trees.now)))) (sym found) ∙ sym next ∙ c.loop-number.invariant

pub misplaced_items-loop-number-preserved : goal.misplaced_items-loop-number-preserved
misplaced_items-loop-number-preserved t c =
    let at : slice_get c.args.trees.now c.loop-number.number ≡ Some (view c.in-Some.tree.now) = sym c.get.ensures ∙ ap (option_map (λ x. view x.now)) c.in-Some.is in
    let next = misplaced_next c.args.trees.now c.loop-number.number (view c.in-Some.tree.now) at in
    let none = sym c.in_ok-place.ensures ∙ c.in_default-2.is in
    ap (λ p. or_else (under (Item c.loop-number.number) p) (misplaced_items (c.loop-number.number + 1) (trees_of (drop (c.loop-number.number + 1) c.args.trees.now)))) (sym none) ∙ sym next ∙ c.loop-number.invariant
