use Rattle.std.proofs.Common.{◌≡◌, ◌+◌, drop}
use Rattle.ld_model.specs.Tree.{trees_of}
use Rattle.ld_tree.specs.View.{trees_view}
use Rattle.cut_model.specs.Planning.{taken_behind}
use Rattle.subtree_cut.proofs.choosing.taken_behind.Given as goal

abbrev pub invariant-loop-number : goal.invariant-loop-number
invariant-loop-number l = l.number + taken_behind l.limit l.sum (trees_of (trees_view (drop l.number l.behind))) ≡ taken_behind l.limit l.initial.sum (trees_of (trees_view l.behind))
