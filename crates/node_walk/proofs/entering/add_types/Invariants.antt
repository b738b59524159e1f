use Rattle.std.proofs.Common.{◌≡◌, map as each}
use Rattle.node_model.specs.Walk.{types_into}
use Rattle.node_walk.proofs.entering.add_types.Given as goal

-- The types that are left, added to what is so far, give what all give.
abbrev pub invariant-loop-type_name : goal.invariant-loop-type_name
invariant-loop-type_name g l =
    types_into g.G.Gather.steps (g.G.Gather.name l.graph) (g.G.Gather.name l.node) (each g.G.Gather.name l.type_name-iterator.rest.items) (g.G.Gather.state l.map)
    ≡ types_into g.G.Gather.steps (g.G.Gather.name l.graph) (g.G.Gather.name l.node) (each g.G.Gather.name l.fn.types.items) (g.G.Gather.state l.initial.map)
