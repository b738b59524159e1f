use Rattle.std.proofs.Common.{◌≡◌, ◌+◌, ◌^◌, ◌<◌, min, drop}
use Rattle.ld_model.specs.Tree.{trees_of, trees_weight}
use Rattle.ld_tree.specs.View.{trees_view}
use Rattle.subtree_cut.specs.Choices.{end_of}
use Rattle.subtree_cut.proofs.choosing.is_light.Given as goal

abbrev pub invariant-loop-item : goal.invariant-loop-item
invariant-loop-item l =
    record {
      small : l.sum < 2 ^ 64;
      left : min (l.sum + trees_weight (trees_of (trees_view (drop l.item-index l.items)))) (end_of l.limit) ≡ min (1 + trees_weight (trees_of (trees_view l.items))) (end_of l.limit);
    }
