use Rattle.std.proofs.Common.{◌≡◌, ◌+◌, ◌*◌, length, drop}
use Rattle.ld_model.specs.Tree.{weight, trees_weight, members_weight, same_trees, same_members, trees_of, members_of}
use Rattle.ld_tree.specs.View.{view, trees_view, members_view}
use Rattle.ld_tree.proofs.+same.Given as goal

abbrev pub decreases-value::Tree::same : goal.decreases-value::Tree::same
decreases-value::Tree::same l = 2 * weight (view l.self.now)

abbrev pub decreases-equality::same_items : goal.decreases-equality::same_items
decreases-equality::same_items l = 2 * trees_weight (trees_of (trees_view l.a.now)) + 1

abbrev pub decreases-equality::same_pairs : goal.decreases-equality::same_pairs
decreases-equality::same_pairs l = 2 * members_weight (members_of (members_view l.a.now)) + 1

abbrev pub invariant-equality::same_items-loop-number : goal.invariant-equality::same_items-loop-number
invariant-equality::same_items-loop-number l =
    record {
      long : length l.a ≡ length l.b;
      left : same_trees (trees_of (trees_view (drop l.number l.a))) (trees_of (trees_view (drop l.number l.b))) ≡ same_trees (trees_of (trees_view l.a)) (trees_of (trees_view l.b));
    }

abbrev pub invariant-equality::same_pairs-loop-number : goal.invariant-equality::same_pairs-loop-number
invariant-equality::same_pairs-loop-number l =
    record {
      long : length l.a ≡ length l.b;
      left : same_members (members_of (members_view (drop l.number l.a))) (members_of (members_view (drop l.number l.b))) ≡ same_members (members_of (members_view l.a)) (members_of (members_view l.b));
    }
