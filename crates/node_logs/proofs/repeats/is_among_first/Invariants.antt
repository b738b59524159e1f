use Rattle.std.proofs.Common.{◌≡◌, take}
use Rattle.std.specs.List.{list_any}
use Rattle.ld_model.specs.Tree.{same_tree}
use Rattle.ld_tree.specs.View.{view}
use Rattle.node_logs.proofs.repeats.is_among_first.Given as goal

abbrev pub invariant-loop-other : goal.invariant-loop-other
invariant-loop-other l = list_any (same_tree (view l.entry)) (take l.left l.other-iterator) ≡ list_any (same_tree (view l.entry)) (take l.initial.left l.initial.other-iterator)
