use Rattle.std.proofs.Common.{◌≡◌, ℕ, List, Ok, Err, Some, ap, sym, ◌∙◌, arith}
use Rattle.std.proofs.lemmas.Grind.{common_steps}
use Rattle.std_collections.specs.Layout.BTreeMap.{seek}
use Rattle.ld_model.specs.Tree.{byte_order, member_at}
use Rattle.ld_tree.specs.declared.value.Tree.{Tree}
use Rattle.ld_tree.specs.View.{view, members_view}
use Rattle.ld_tree.proofs.ViewLemmas.{found, not_found}
use Rattle.ld_tree.proofs.value.Members.get.Goals as goal

pub index-requires : goal.index-requires
index-requires c =
    let at : seek (byte_order c.args.key.now) (members_view c.self.inside.pairs.items) ≡ Ok c.in-Ok.place = grind (arith, common_steps) in
    let there = found c.args.key.now c.self.inside.pairs.items c.in-Ok.place at in
    let within = there.within in omega arith

pub returns-in-Ok : goal.returns-in-Ok
returns-in-Ok c =
    let at : seek (byte_order c.args.key.now) (members_view c.self.inside.pairs.items) ≡ Ok c.in-Ok.place = grind (arith, common_steps) in
    let there = found c.args.key.now c.self.inside.pairs.items c.in-Ok.place at in
    ap (λ (x : List ℕ × Tree). Some (view x.1)) c.index.ensures ∙ sym (there.value c.index.result.now) ∙ ap (member_at c.args.key.now) c.self.view_is

pub returns-in-Err : goal.returns-in-Err
returns-in-Err c =
    let at : seek (byte_order c.args.key.now) (members_view c.self.inside.pairs.items) ≡ Err c.in-Err.field-0 = grind (arith, common_steps) in
    let none = not_found c.args.key.now (members_view c.self.inside.pairs.items) c.in-Err.field-0 c.self.invariant at in
    sym none.0 ∙ ap (member_at c.args.key.now) c.self.view_is
