use Rattle.std.proofs.Common.{◌∙◌, map as each}
use Rattle.ld_tree.specs.View.{view}
use Rattle.node_walk.proofs.Names.{names_step}
use Rattle.node_walk.proofs.entering.names_in.Goals as goal

pub loop-tree-preserved : goal.loop-tree-preserved
loop-tree-preserved g c =
    names_step g.G.Gather.steps (each g.G.Gather.name c.loop-tree.made.items) (each g.G.Gather.name c.push_name.new.made.items) (view c.in-Some.tree) c.next.new.self c.loop-tree.tree-iterator
    (g.G.Gather.state c.loop-tree.map) (g.G.Gather.state c.push_name.new.map) c.in_ok-push_name.ensures c.in-Some.ensures.steps
    ∙ c.loop-tree.invariant
