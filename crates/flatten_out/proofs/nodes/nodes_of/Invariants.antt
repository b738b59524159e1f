use Rattle.std.proofs.Common.{◌≡◌, ◌++◌}
use Rattle.ld_model.specs.Flatten.{nodes_of}
use Rattle.flatten_out.proofs.nodes.nodes_of.Given as goal

-- What is left, behind the nodes so far, gives what all gives.
abbrev pub invariant-loop-node : goal.invariant-loop-node
invariant-loop-node l = l.nodes ++ nodes_of l.node-iterator ≡ nodes_of l.initial.node-iterator
