use Rattle.std.proofs.Common.{◌≡◌, ◌++◌}
use Rattle.ld_tree.specs.View.{members_view}
use Rattle.flatten_out.proofs.graphs.members_of.Given as goal

abbrev pub invariant-loop-id : goal.invariant-loop-id
invariant-loop-id l = l.members ++ members_view l.id-iterator ≡ members_view l.fn.nodes.entries
