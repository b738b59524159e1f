use Rattle.std.proofs.Common.{◌≡◌, rules, ap, ◌∙◌, Some, Less, Greater, Equal}
use Rattle.std.specs.Arc.{arc_value}
use Rattle.ld_model.specs.Tree.{byte_order}
use Rattle.ctx_types.specs.declared.definition.TermDef.{TermDef}
use Rattle.ctx_types.specs.Sorted.{IsAscending}
use Rattle.ctx_types.specs.View.{definition_view}
use Rattle.ctx_types.proofs.Sides.{at_node, found_left, found_right, found_here, rest_left, rest_right, rest_here}
use Rattle.ctx_types.proofs.branch.Branch.+without.Goals as goal

pub without-requires : goal.without-requires
without-requires t c =
    let sorted : IsAscending c.args.self.now = search rules in
    let h = at_node arc_value c.self.inside.top c.in-Some.node c.deref-node.result.now c.args.self.now c.self.view_is c.in-Some.is c.deref-node.ensures sorted in
    let shorter = h.shorter in (search rules, h.left)

pub without-requires-in-Greater : goal.without-requires-in-Greater
without-requires-in-Greater t c =
    let sorted : IsAscending c.args.self.now = search rules in
    let h = at_node arc_value c.self.inside.top c.in-Some.node c.deref-node.result.now c.args.self.now c.self.view_is c.in-Some.is c.deref-node.ensures sorted in
    let shorter = h.shorter in (search rules, h.right)

pub returns-in_default-2-clause-value : goal.returns-in_default-2-clause-value
returns-in_default-2-clause-value t c =
    let sorted : IsAscending c.args.self.now = search rules in
    let h = at_node arc_value c.self.inside.top c.in-Some.node c.deref-node.result.now c.args.self.now c.self.view_is c.in-Some.is c.deref-node.ensures sorted in
    let found : byte_order c.args.key.now c.deref-node.result.now.entry.key ≡ Less = cc (c.order.ensures, c.get.ensures, c.in-Less.is) in
    (rw c.in_default-2.is at c.in_ok-left-in-Less.ensures.value) ∙ found_left c.args.key.now c.args.self.now c.deref-node.result.now h found

pub returns-in_default-3-clause-value : goal.returns-in_default-3-clause-value
returns-in_default-3-clause-value t c =
    let sorted : IsAscending c.args.self.now = search rules in
    let h = at_node arc_value c.self.inside.top c.in-Some.node c.deref-node.result.now c.args.self.now c.self.view_is c.in-Some.is c.deref-node.ensures sorted in
    let found : byte_order c.args.key.now c.deref-node.result.now.entry.key ≡ Greater = cc (c.order.ensures, c.get.ensures, c.in-Greater.is) in
    (rw c.in_default-3.is at c.in_ok-right-in-Greater.ensures.value) ∙ found_right c.args.key.now c.args.self.now c.deref-node.result.now h found

pub returns-in_ok-rest-in-Less-clause-value : goal.returns-in_ok-rest-in-Less-clause-value
returns-in_ok-rest-in-Less-clause-value t c =
    let sorted : IsAscending c.args.self.now = search rules in
    let h = at_node arc_value c.self.inside.top c.in-Some.node c.deref-node.result.now c.args.self.now c.self.view_is c.in-Some.is c.deref-node.ensures sorted in
    let found : byte_order c.args.key.now c.deref-node.result.now.entry.key ≡ Less = cc (c.order.ensures, c.get.ensures, c.in-Less.is) in
    (rw c.in-Some-2.is at c.in_ok-left-in-Less.ensures.value) ∙ found_left c.args.key.now c.args.self.now c.deref-node.result.now h found

pub returns-in_ok-rest-in-Greater-clause-value : goal.returns-in_ok-rest-in-Greater-clause-value
returns-in_ok-rest-in-Greater-clause-value t c =
    let sorted : IsAscending c.args.self.now = search rules in
    let h = at_node arc_value c.self.inside.top c.in-Some.node c.deref-node.result.now c.args.self.now c.self.view_is c.in-Some.is c.deref-node.ensures sorted in
    let found : byte_order c.args.key.now c.deref-node.result.now.entry.key ≡ Greater = cc (c.order.ensures, c.get.ensures, c.in-Greater.is) in
    (rw c.in-Some-3.is at c.in_ok-right-in-Greater.ensures.value) ∙ found_right c.args.key.now c.args.self.now c.deref-node.result.now h found

pub returns-in_ok-share-in-Equal-clause-value : goal.returns-in_ok-share-in-Equal-clause-value
returns-in_ok-share-in-Equal-clause-value t c =
    let sorted : IsAscending c.args.self.now = search rules in
    let h = at_node arc_value c.self.inside.top c.in-Some.node c.deref-node.result.now c.args.self.now c.self.view_is c.in-Some.is c.deref-node.ensures sorted in
    let found : byte_order c.args.key.now c.deref-node.result.now.entry.key ≡ Equal = cc (c.order.ensures, c.get.ensures, c.in-Equal.is) in
    ap (λ (d : TermDef). Some (definition_view d)) c.in_ok-share-in-Equal.ensures ∙ found_here c.args.key.now c.args.self.now c.deref-node.result.now h found

pub returns-in_ok-rest-in-Less-clause-rest : goal.returns-in_ok-rest-in-Less-clause-rest
returns-in_ok-rest-in-Less-clause-rest t c =
    let sorted : IsAscending c.args.self.now = search rules in
    let h = at_node arc_value c.self.inside.top c.in-Some.node c.deref-node.result.now c.args.self.now c.self.view_is c.in-Some.is c.deref-node.ensures sorted in
    let found : byte_order c.args.key.now c.deref-node.result.now.entry.key ≡ Less = cc (c.order.ensures, c.get.ensures, c.in-Less.is) in
    let left = rw c.in-Some-2.is at c.in_ok-left-in-Less.ensures.rest in
    c.in_ok-rest-in-Less.ensures ∙ rest_left c.args.key.now c.args.self.now c.deref-node.result.now h c.in-Some-2.left c.in_ok-copy-in-Less.field-0 c.in_ok-share-in-Less.field-0 found left c.in_ok-share-in-Less.ensures c.in_ok-copy-in-Less.ensures

pub returns-in_ok-rest-in-Greater-clause-rest : goal.returns-in_ok-rest-in-Greater-clause-rest
returns-in_ok-rest-in-Greater-clause-rest t c =
    let sorted : IsAscending c.args.self.now = search rules in
    let h = at_node arc_value c.self.inside.top c.in-Some.node c.deref-node.result.now c.args.self.now c.self.view_is c.in-Some.is c.deref-node.ensures sorted in
    let found : byte_order c.args.key.now c.deref-node.result.now.entry.key ≡ Greater = cc (c.order.ensures, c.get.ensures, c.in-Greater.is) in
    let right = rw c.in-Some-3.is at c.in_ok-right-in-Greater.ensures.rest in
    c.in_ok-rest-in-Greater.ensures ∙ rest_right c.args.key.now c.args.self.now c.deref-node.result.now h c.in_ok-copy-in-Greater.field-0 c.in-Some-3.right c.in_ok-share-in-Greater.field-0 found c.in_ok-copy-in-Greater.ensures c.in_ok-share-in-Greater.ensures right

pub returns-in_ok-share-in-Equal-clause-rest : goal.returns-in_ok-share-in-Equal-clause-rest
returns-in_ok-share-in-Equal-clause-rest t c =
    let sorted : IsAscending c.args.self.now = search rules in
    let h = at_node arc_value c.self.inside.top c.in-Some.node c.deref-node.result.now c.args.self.now c.self.view_is c.in-Some.is c.deref-node.ensures sorted in
    let found : byte_order c.args.key.now c.deref-node.result.now.entry.key ≡ Equal = cc (c.order.ensures, c.get.ensures, c.in-Equal.is) in
    c.in_ok-rest-in-Equal.ensures ∙ rest_here c.args.key.now c.args.self.now c.deref-node.result.now h found
