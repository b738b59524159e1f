use Rattle.std.proofs.Common.{◌≡◌, length, drop}
use Rattle.ld_model.specs.Tree.{same_trees, trees_of}
use Rattle.ld_tree.specs.View.{trees_view}
use Rattle.subtree_cut.proofs.standing.are_same.Given as goal

abbrev pub invariant-loop-number : goal.invariant-loop-number
invariant-loop-number l =
    record {
      long : length l.items ≡ length l.others;
      left : same_trees (trees_of (trees_view (drop l.number l.items))) (trees_of (trees_view (drop l.number l.others))) ≡ same_trees (trees_of (trees_view l.items)) (trees_of (trees_view l.others));
    }
