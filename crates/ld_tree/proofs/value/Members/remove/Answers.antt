use Rattle.std.proofs.Common.{◌≡◌, ℕ, List, Ok, Err, Some, ap, sym, ◌∙◌, arith}
use Rattle.std.proofs.lemmas.Grind.{common_steps}
use Rattle.std_collections.specs.Layout.BTreeMap.{seek}
use Rattle.ld_model.specs.Tree.{byte_order, member_at}
use Rattle.ld_tree.specs.declared.value.Tree.{Tree}
use Rattle.ld_tree.specs.View.{view, members_view}
use Rattle.ld_tree.proofs.ViewLemmas.{found, not_found, remove_ascends}
use Rattle.ld_tree.proofs.value.Members.remove.Goals as goal

pub remove-tree-requires : goal.remove-tree-requires
remove-tree-requires c =
    let at : seek (byte_order c.args.key.now) (members_view c.self.inside.pairs.items) ≡ Ok c.in-Ok.place = grind (arith, common_steps) in
    let there = found c.args.key.now c.self.inside.pairs.items c.in-Ok.place at in
    let within = there.within in omega arith

pub invariant_of-self : goal.invariant_of-self
invariant_of-self c =
    let at : seek (byte_order c.args.key.now) (members_view c.self.inside.pairs.items) ≡ Ok c.in-Ok.place = grind (arith, common_steps) in
    let there = found c.args.key.now c.self.inside.pairs.items c.in-Ok.place at in
    rw c.remove-tree.ensures.items (remove_ascends c.self.inside.pairs.items c.in-Ok.place there.within c.self.invariant)

pub returns-in-Ok-clause-value : goal.returns-in-Ok-clause-value
returns-in-Ok-clause-value c =
    let at : seek (byte_order c.args.key.now) (members_view c.self.inside.pairs.items) ≡ Ok c.in-Ok.place = grind (arith, common_steps) in
    let there = found c.args.key.now c.self.inside.pairs.items c.in-Ok.place at in
    ap (λ (x : List ℕ × Tree). Some (view x.1)) c.remove-tree.ensures.value ∙ sym (there.value c.remove-tree.result) ∙ ap (member_at c.args.key.now) c.self.view_is

pub returns-in-Ok-clause-rest : goal.returns-in-Ok-clause-rest
returns-in-Ok-clause-rest c =
    let at : seek (byte_order c.args.key.now) (members_view c.self.inside.pairs.items) ≡ Ok c.in-Ok.place = grind (arith, common_steps) in
    let there = found c.args.key.now c.self.inside.pairs.items c.in-Ok.place at in
    rw (c.remove-tree.ensures.items, ← c.self.view_is) there.removes

pub returns-in-Err-clause-value : goal.returns-in-Err-clause-value
returns-in-Err-clause-value c =
    let at : seek (byte_order c.args.key.now) (members_view c.self.inside.pairs.items) ≡ Err c.in-Err.field-0 = grind (arith, common_steps) in
    let none = not_found c.args.key.now (members_view c.self.inside.pairs.items) c.in-Err.field-0 c.self.invariant at in
    sym none.0 ∙ ap (member_at c.args.key.now) c.self.view_is

pub returns-in-Err-clause-rest : goal.returns-in-Err-clause-rest
returns-in-Err-clause-rest c =
    let at : seek (byte_order c.args.key.now) (members_view c.self.inside.pairs.items) ≡ Err c.in-Err.field-0 = grind (arith, common_steps) in
    let none = not_found c.args.key.now (members_view c.self.inside.pairs.items) c.in-Err.field-0 c.self.invariant at in
    rw (← c.self.view_is) (sym none.1)
