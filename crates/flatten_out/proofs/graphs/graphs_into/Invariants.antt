use Rattle.std.proofs.Common.{◌≡◌}
use Rattle.ld_model.specs.Flatten.{graphs_into}
use Rattle.ld_tree.specs.View.{members_view}
use Rattle.flatten_out.proofs.graphs.graphs_into.Given as goal

-- What is left, put into the nodes so far, gives what all gives.
abbrev pub invariant-loop-name : goal.invariant-loop-name
invariant-loop-name l = graphs_into l.name-iterator (members_view l.held.entries) ≡ graphs_into l.initial.name-iterator (members_view l.initial.held.entries)
