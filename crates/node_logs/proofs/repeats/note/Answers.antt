use Rattle.std.proofs.Common.{◌≡◌, cond, Bool, true, false, ◌||◌, refl, ap, ◌∙◌}
use Rattle.std.specs.BTreeSet.{contains}
use Rattle.std.specs.BTreeMap.{is_at}
use Rattle.ld_model.specs.Tree.{same_tree}
use Rattle.node_logs.specs.TreeOrder.{tree_order}
use Rattle.node_logs.specs.TotalOrder.{trees-tied}
use Rattle.node_logs.proofs.repeats.note.Goals as goal

or : (b c : Bool) → cond b true c ≡ (b || c)
or true c = refl
or false c = refl

pub returns-in-Ok-clause-noted : goal.returns-in-Ok-clause-noted
returns-in-Ok-clause-noted c =
    λ t. c.in-Ok.ensures.updates.0 t ∙ or (is_at (tree_order c.new.result) t) (contains tree_order c.args.seen.now t)
    ∙ ap (λ b. b || contains tree_order c.args.seen.now t) (trees-tied c.new.result t ∙ ap (λ u. same_tree u t) c.new.ensures)
