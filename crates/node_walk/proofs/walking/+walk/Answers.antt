use Rattle.std.proofs.Common.{ap}
use Rattle.std.specs.Option.{option_map}
use Rattle.ld_model.specs.Tree.{members_of}
use Rattle.ld_tree.specs.View.{view}
use Rattle.node_model.specs.Walk.{At}
use Rattle.node_walk.specs.Seen.{to_view}
use Rattle.node_walk.proofs.Found.{map_walked, node_walked}
use Rattle.node_walk.proofs.walking.+walk.Goals as goal

pub walk_element-returns-in-Map : goal.walk_element-returns-in-Map
walk_element-returns-in-Map g t c =
    let At = At g.G.Gather.State g.G.Gather.E in
    let before : At = record { state = g.G.Gather.state c.args.map.now; items = g.G.Gather.items c.args.gathered.now } in
    let last : At = record { state = g.G.Gather.state c.walk_map.new.map; items = g.G.Gather.items c.walk_map.new.gathered } in
    map_walked g.G.Gather.steps (g.G.Gather.name c.args.graph.now) (to_view g.G.Gather.name c.args.to) (view c.args.element) c.in-Map.members before last
    (ap view c.in-Map.is) c.in_ok-walk_map-in-Map.ensures

pub walk_node-returns : goal.walk_node-returns
walk_node-returns g t c =
    let At = At g.G.Gather.State g.G.Gather.E in
    let to = to_view g.G.Gather.name c.args.to in
    let head = c.take_head-head in
    let parts = c.inside_of-inside in
    let before : At = record { state = g.G.Gather.state c.args.map.now; items = g.G.Gather.items c.args.gathered.now } in
    let entered : At = record { state = g.G.Gather.state c.enter.new.map; items = g.G.Gather.items c.enter.new.gathered } in
    let reversed : At = record { state = g.G.Gather.state c.walk_reverse_properties.new.map; items = g.G.Gather.items c.walk_reverse_properties.new.gathered } in
    let graph : At = record { state = g.G.Gather.state c.walk_found.new.map; items = g.G.Gather.items c.walk_found.new.gathered } in
    let around : At = record { state = g.G.Gather.state c.walk_found-2.new.map; items = g.G.Gather.items c.walk_found-2.new.gathered } in
    let last : At = record { state = g.G.Gather.state c.walk_properties.new.map; items = g.G.Gather.items c.walk_properties.new.gathered } in
    node_walked g.G.Gather.steps (g.G.Gather.name c.args.graph.now) (g.G.Gather.name c.in_ok-node.node) to c.args.members head.new.members parts.result.properties
    (option_map view head.result.types) (option_map view parts.result.graph) (option_map view parts.result.included) head.result.id head.result.index (members_of parts.result.turned)
    before entered reversed graph around last (g.G.Gather.state c.add_graph.new.map)
    head.ensures.types head.ensures.id head.ensures.index head.ensures.left
    parts.ensures.turned parts.ensures.graph parts.ensures.included parts.ensures.left.properties
    c.in_ok-node.ensures c.in_ok-walk_reverse_properties.ensures c.in_ok-add_graph.ensures c.in_ok-walk_found.ensures c.in_ok-walk_found-2.ensures c.in_ok-walk_properties.ensures
