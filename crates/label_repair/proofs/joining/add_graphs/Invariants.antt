use Rattle.std.proofs.Common.{◌≡◌}
use Rattle.label_repair.specs.Finished.{pairs_put}
use Rattle.label_repair.specs.Shards.{built_view}
use Rattle.label_repair.proofs.joining.add_graphs.Given as goal

abbrev pub invariant-loop-name : goal.invariant-loop-name
invariant-loop-name l = pairs_put (built_view l.name-iterator) (built_view l.graphs.entries) ≡ pairs_put (built_view l.initial.name-iterator) (built_view l.initial.graphs.entries)
