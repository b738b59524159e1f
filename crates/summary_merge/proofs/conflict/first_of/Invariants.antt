use Rattle.std.proofs.Common.{◌≡◌}
use Rattle.sum_model.specs.Conflicts.{earliest, earlier}
use Rattle.subtree_summary.specs.Parts.{nodes_view}
use Rattle.summary_merge.specs.Conflict.{conflict_view}
use Rattle.summary_merge.proofs.conflict.first_of.Given as goal

abbrev pub invariant-loop-key : goal.invariant-loop-key
invariant-loop-key l = earlier (conflict_view l.first) (earliest (nodes_view l.key-iterator)) ≡ earliest (nodes_view l.nodes.entries)
