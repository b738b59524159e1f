use Rattle.std.proofs.Common.{◌≡◌, ◌++◌}
use Rattle.node_model.specs.AsTrees.{graph_pairs}
use Rattle.node_logs.specs.Views.{graphs_view}
use Rattle.node_logs.proofs.finishing.graphs_of.Given as goal

abbrev pub invariant-loop-name : goal.invariant-loop-name
invariant-loop-name l = l.members ++ graph_pairs (graphs_view l.name-iterator) ≡ graph_pairs (graphs_view l.fn.graphs.entries)
