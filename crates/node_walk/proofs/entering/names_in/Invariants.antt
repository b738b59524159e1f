use Rattle.std.proofs.Common.{◌≡◌, map as each}
use Rattle.ld_model.specs.Tree.{trees_of}
use Rattle.node_model.specs.Walk.{names, texts_in}
use Rattle.node_walk.specs.Found.{more_names}
use Rattle.node_walk.proofs.entering.names_in.Given as goal

-- The names so far and those of what is left are those of all.
abbrev pub invariant-loop-tree : goal.invariant-loop-tree
invariant-loop-tree g l =
    more_names g.G.Gather.steps (each g.G.Gather.name l.made.items) (texts_in (trees_of l.tree-iterator)) (g.G.Gather.state l.map)
    ≡ names g.G.Gather.steps (texts_in (trees_of l.fn.trees)) (g.G.Gather.state l.initial.map)
