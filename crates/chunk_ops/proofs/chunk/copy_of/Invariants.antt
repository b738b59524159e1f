use Rattle.std.proofs.Common.{◌≡◌, ◌++◌, drop}
use Rattle.ld_tree.specs.View.{trees_view}
use Rattle.chunk_ops.proofs.chunk.copy_of.Given as goal

abbrev pub invariant-loop-item : goal.invariant-loop-item
invariant-loop-item l = l.copy ++ trees_view (drop l.item-index l.items) ≡ trees_view l.items
