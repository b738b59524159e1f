use Rattle.std.proofs.Common.{◌≡◌, ◌++◌}
use Rattle.label_repair.specs.Finished.{graph_trees}
use Rattle.label_repair.specs.Shards.{built_view}
use Rattle.label_repair.proofs.joining.maps_of.Given as goal

abbrev pub invariant-loop-name : goal.invariant-loop-name
invariant-loop-name l = l.members ++ graph_trees (built_view l.name-iterator) ≡ graph_trees (built_view l.fn.graphs.entries)
