use Rattle.std.proofs.Common.{◌≡◌, rules, subst, Less, Greater, Equal}
use Rattle.std.specs.Arc.{arc_value}
use Rattle.std.specs.Prelude.{IfOk}
use Rattle.ld_model.specs.Tree.{byte_order}
use Rattle.ctx_types.specs.Context.{Terms}
use Rattle.ctx_types.specs.Sorted.{IsAscending}
use Rattle.ctx_types.specs.View.{definition_view}
use Rattle.ctx_types.proofs.Sides.{at_node, put_left, put_right, put_here}
use Rattle.ctx_types.proofs.branch.Branch.+with.Goals as goal

pub with-requires : goal.with-requires
with-requires t c =
    let sorted : IsAscending c.args.self.now = search rules in
    let h = at_node arc_value c.self.inside.top c.in-Some.node c.deref-node.result.now c.args.self.now c.self.view_is c.in-Some.is c.deref-node.ensures sorted in
    let shorter = h.shorter in (search rules, h.left)

pub with-requires-in-Greater : goal.with-requires-in-Greater
with-requires-in-Greater t c =
    let sorted : IsAscending c.args.self.now = search rules in
    let h = at_node arc_value c.self.inside.top c.in-Some.node c.deref-node.result.now c.args.self.now c.self.view_is c.in-Some.is c.deref-node.ensures sorted in
    let shorter = h.shorter in (search rules, h.right)

pub returns-in_ok-copy-in-Less : goal.returns-in_ok-copy-in-Less
returns-in_ok-copy-in-Less t c =
    let sorted : IsAscending c.args.self.now = search rules in
    let h = at_node arc_value c.self.inside.top c.in-Some.node c.deref-node.result.now c.args.self.now c.self.view_is c.in-Some.is c.deref-node.ensures sorted in
    let found : byte_order c.args.key c.deref-node.result.now.entry.key ≡ Less = cc (c.order.ensures, c.as_str.ensures, c.get.ensures, c.in-Less.is) in
    let all = put_left c.args.key c.args.self.now c.deref-node.result.now h (definition_view c.args.value) c.in_ok-left-in-Less.left c.in_ok-copy-in-Less.field-0 c.in_ok-share-in-Less.field-0 found c.in_ok-left-in-Less.ensures c.in_ok-share-in-Less.ensures c.in_ok-copy-in-Less.ensures in
    subst (λ (ts : Terms). IfOk c.balanced.result (λ b. b ≡ ts)) all c.balanced.ensures

pub returns-in_ok-share-in-Greater : goal.returns-in_ok-share-in-Greater
returns-in_ok-share-in-Greater t c =
    let sorted : IsAscending c.args.self.now = search rules in
    let h = at_node arc_value c.self.inside.top c.in-Some.node c.deref-node.result.now c.args.self.now c.self.view_is c.in-Some.is c.deref-node.ensures sorted in
    let found : byte_order c.args.key c.deref-node.result.now.entry.key ≡ Greater = cc (c.order.ensures, c.as_str.ensures, c.get.ensures, c.in-Greater.is) in
    let all = put_right c.args.key c.args.self.now c.deref-node.result.now h (definition_view c.args.value) c.in_ok-copy-in-Greater.field-0 c.in_ok-right-in-Greater.right c.in_ok-share-in-Greater.field-0 found c.in_ok-copy-in-Greater.ensures c.in_ok-share-in-Greater.ensures c.in_ok-right-in-Greater.ensures in
    subst (λ (ts : Terms). IfOk c.balanced-in-Greater-2.result (λ b. b ≡ ts)) all c.balanced-in-Greater-2.ensures

pub returns-in_ok-copy-in-Equal-2 : goal.returns-in_ok-copy-in-Equal-2
returns-in_ok-copy-in-Equal-2 t c =
    let sorted : IsAscending c.args.self.now = search rules in
    let h = at_node arc_value c.self.inside.top c.in-Some.node c.deref-node.result.now c.args.self.now c.self.view_is c.in-Some.is c.deref-node.ensures sorted in
    let found : byte_order c.args.key c.deref-node.result.now.entry.key ≡ Equal = cc (c.order.ensures, c.as_str.ensures, c.get.ensures, c.in-Equal.is) in
    let all = put_here c.args.key c.args.self.now c.deref-node.result.now h (definition_view c.args.value) c.in_ok-copy-in-Equal.field-0 c.in_ok-copy-in-Equal-2.field-0 c.in_ok-key-in-Equal.key found c.in_ok-copy-in-Equal.ensures c.in_ok-key-in-Equal.ensures c.in_ok-copy-in-Equal-2.ensures in
    subst (λ (ts : Terms). IfOk c.joined-in-Equal-2.result (λ b. b ≡ ts)) all c.joined-in-Equal-2.ensures
