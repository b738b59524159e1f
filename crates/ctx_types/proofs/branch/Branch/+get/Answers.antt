use Rattle.std.proofs.Common.{◌≡◌, rules, ap, ◌∙◌, Some, Less, Greater, Equal}
use Rattle.std.specs.Arc.{arc_value}
use Rattle.ld_model.specs.Tree.{byte_order}
use Rattle.ctx_types.specs.declared.definition.TermDef.{TermDef}
use Rattle.ctx_types.specs.Sorted.{IsAscending}
use Rattle.ctx_types.specs.View.{definition_view}
use Rattle.ctx_types.proofs.Sides.{at_node, found_left, found_right, found_here}
use Rattle.ctx_types.proofs.branch.Branch.+get.Goals as goal

pub get-requires-in-Less : goal.get-requires-in-Less
get-requires-in-Less t c =
    let sorted : IsAscending c.args.self.now = search rules in
    let h = at_node arc_value c.self.inside.top c.in-Some.node c.deref-node.result.now c.args.self.now c.self.view_is c.in-Some.is c.deref-node.ensures sorted in
    let shorter = h.shorter in (search rules, h.left)

pub get-requires-in-Greater : goal.get-requires-in-Greater
get-requires-in-Greater t c =
    let sorted : IsAscending c.args.self.now = search rules in
    let h = at_node arc_value c.self.inside.top c.in-Some.node c.deref-node.result.now c.args.self.now c.self.view_is c.in-Some.is c.deref-node.ensures sorted in
    let shorter = h.shorter in (search rules, h.right)

pub returns-in-Less : goal.returns-in-Less
returns-in-Less t c =
    let sorted : IsAscending c.args.self.now = search rules in
    let h = at_node arc_value c.self.inside.top c.in-Some.node c.deref-node.result.now c.args.self.now c.self.view_is c.in-Some.is c.deref-node.ensures sorted in
    let found : byte_order c.args.key.now c.deref-node.result.now.entry.key ≡ Less = cc (c.order.ensures, c.get.ensures, c.in-Less.is) in
    c.get-in-Less.ensures ∙ found_left c.args.key.now c.args.self.now c.deref-node.result.now h found

pub returns-in-Greater : goal.returns-in-Greater
returns-in-Greater t c =
    let sorted : IsAscending c.args.self.now = search rules in
    let h = at_node arc_value c.self.inside.top c.in-Some.node c.deref-node.result.now c.args.self.now c.self.view_is c.in-Some.is c.deref-node.ensures sorted in
    let found : byte_order c.args.key.now c.deref-node.result.now.entry.key ≡ Greater = cc (c.order.ensures, c.get.ensures, c.in-Greater.is) in
    c.get-in-Greater.ensures ∙ found_right c.args.key.now c.args.self.now c.deref-node.result.now h found

pub returns-in-Equal : goal.returns-in-Equal
returns-in-Equal t c =
    let sorted : IsAscending c.args.self.now = search rules in
    let h = at_node arc_value c.self.inside.top c.in-Some.node c.deref-node.result.now c.args.self.now c.self.view_is c.in-Some.is c.deref-node.ensures sorted in
    let found : byte_order c.args.key.now c.deref-node.result.now.entry.key ≡ Equal = cc (c.order.ensures, c.get.ensures, c.in-Equal.is) in
    ap (λ (d : TermDef). Some (definition_view d)) c.get-in-Equal.ensures ∙ found_here c.args.key.now c.args.self.now c.deref-node.result.now h found
