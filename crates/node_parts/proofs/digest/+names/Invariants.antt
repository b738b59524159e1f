use Rattle.std.proofs.Common.{◌+◌, ◌*◌, ◌≤◌}
use Rattle.ld_model.specs.Tree.{weight, trees_weight, members_weight, trees_of, members_of}
use Rattle.ld_tree.specs.View.{view}
use Rattle.node_parts.proofs.digest.+names.Given as goal

abbrev pub decreases-note_tree : goal.decreases-note_tree
decreases-note_tree l = 3 * weight (view l.tree.now)

abbrev pub decreases-note_items : goal.decreases-note_items
decreases-note_items l = 3 * trees_weight (trees_of l.items.now) + 2

abbrev pub decreases-note_members : goal.decreases-note_members
decreases-note_members l = 3 * members_weight (members_of l.members.now) + 2

abbrev pub decreases-note_member : goal.decreases-note_member
decreases-note_member l = 3 * weight (view l.value.now) + 1

abbrev pub invariant-note_items-loop-item : goal.invariant-note_items-loop-item
invariant-note_items-loop-item l = trees_weight (trees_of l.item-iterator) ≤ trees_weight (trees_of l.initial.item-iterator)

abbrev pub invariant-note_members-loop-key : goal.invariant-note_members-loop-key
invariant-note_members-loop-key l = members_weight (members_of l.key-iterator) ≤ members_weight (members_of l.initial.key-iterator)
