use Rattle.std.proofs.Common.{◌≡◌, ◌≤◌, ◌++◌}
use Rattle.ld_model.specs.Tree.{weight, trees_weight, trees_of}
use Rattle.ld_tree.specs.View.{view}
use Rattle.expand_model.specs.Values.{all_added_values}
use Rattle.expand_values.proofs.members.+gather.Given as goal

abbrev pub decreases-gather : goal.decreases-gather
decreases-gather l = weight (view l.value)

abbrev pub invariant-loop-item : goal.invariant-loop-item
invariant-loop-item l =
    record {
      gathered : l.added ++ all_added_values (trees_of l.item-iterator) ≡ l.initial.added ++ all_added_values (trees_of l.initial.item-iterator);
      lighter : trees_weight (trees_of l.item-iterator) ≤ trees_weight (trees_of l.initial.item-iterator);
    }
