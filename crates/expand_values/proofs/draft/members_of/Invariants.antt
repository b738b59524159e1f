use Rattle.std.proofs.Common.{◌≡◌, ◌++◌}
use Rattle.ld_tree.specs.View.{members_view}
use Rattle.expand_values.proofs.draft.members_of.Given as goal

abbrev pub invariant-loop-key : goal.invariant-loop-key
invariant-loop-key l = l.members ++ members_view l.key-iterator ≡ members_view l.fn.entries.entries
