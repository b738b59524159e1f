use Rattle.std.proofs.Common.{◌≡◌, ◌++◌}
use Rattle.std.specs.Prelude.{map}
use Rattle.node_model.specs.AsTrees.{node_pair}
use Rattle.node_logs.specs.Views.{graph_view}
use Rattle.node_logs.proofs.finishing.nodes_of.Given as goal

abbrev pub invariant-loop-id : goal.invariant-loop-id
invariant-loop-id l = l.members ++ map node_pair (graph_view l.id-iterator) ≡ map node_pair (graph_view l.fn.nodes.entries)
