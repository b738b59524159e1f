use Rattle.std.proofs.Common.{◌≡◌, ◌++◌}
use Rattle.ld_tree.specs.View.{members_view}
use Rattle.expand_values.proofs.draft.tree_of.Given as goal

abbrev pub invariant-loop-key : goal.invariant-loop-key
invariant-loop-key l = members_view l.many.entries ++ l.key-iterator ≡ l.fn.members
