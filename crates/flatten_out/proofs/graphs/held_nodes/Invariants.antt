use Rattle.std.proofs.Common.{◌≡◌, ◌++◌}
use Rattle.ld_tree.specs.View.{members_view}
use Rattle.flatten_out.proofs.graphs.held_nodes.Given as goal

abbrev pub invariant-loop-id : goal.invariant-loop-id
invariant-loop-id l = members_view l.held.entries ++ l.id-iterator ≡ l.initial.id-iterator
