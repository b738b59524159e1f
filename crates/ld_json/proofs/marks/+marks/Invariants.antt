use Rattle.std.proofs.Common.{◌≡◌, ◌+◌, ◌*◌, ◌≤◌, drop}
use Rattle.ld_model.specs.Tree.{weight, trees_weight, members_weight, trees_of, members_of}
use Rattle.ld_tree.specs.View.{view}
use Rattle.ld_json.specs.Marks as marks
use Rattle.ld_json.proofs.marks.+marks.Given as goal

abbrev pub decreases-misplaced : goal.decreases-misplaced
decreases-misplaced l = 3 * weight (view l.tree.now)

abbrev pub decreases-misplaced_items : goal.decreases-misplaced_items
decreases-misplaced_items l = 3 * trees_weight (trees_of l.trees.now) + 2

abbrev pub decreases-misplaced_members : goal.decreases-misplaced_members
decreases-misplaced_members l = 3 * members_weight (members_of l.members.now) + 2

abbrev pub decreases-misplaced_member : goal.decreases-misplaced_member
decreases-misplaced_member l = 3 * weight (view l.tree.now) + 1

abbrev pub invariant-misplaced_items-loop-number : goal.invariant-misplaced_items-loop-number
invariant-misplaced_items-loop-number l =
    marks.misplaced_items l.number (trees_of (drop l.number l.trees)) ≡ marks.misplaced_items 0 (trees_of l.trees)

abbrev pub invariant-misplaced_members-loop-key : goal.invariant-misplaced_members-loop-key
invariant-misplaced_members-loop-key l =
    record {
      same : marks.misplaced_members (members_of l.key-iterator) ≡ marks.misplaced_members (members_of l.initial.key-iterator);
      lighter : members_weight (members_of l.key-iterator) ≤ members_weight (members_of l.initial.key-iterator);
    }
