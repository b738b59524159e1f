use Rattle.std.proofs.Common.{◌≡◌, ℕ, List, Ok, Err, Some, ap, sym, ◌∙◌, arith}
use Rattle.std.proofs.lemmas.Grind.{common_steps}
use Rattle.std_collections.specs.Layout.BTreeMap.{seek}
use Rattle.ld_model.specs.Tree.{byte_order, member_at, null}
use Rattle.ld_tree.specs.declared.value.Tree.{Tree}
use Rattle.ld_tree.specs.declared.value.Tree.TheVariants.{Null}
use Rattle.ld_tree.specs.View.{view, members_view}
use Rattle.ld_tree.proofs.ViewLemmas.{found, not_found, written_ascends}
use Rattle.ld_tree.proofs.value.Members.take.Goals as goal

pub index_mut-pair-requires : goal.index_mut-pair-requires
index_mut-pair-requires c =
    let at : seek (byte_order c.args.key.now) (members_view c.self.inside.pairs.items) ≡ Ok c.in-Ok.place = grind (arith, common_steps) in
    let there = found c.args.key.now c.self.inside.pairs.items c.in-Ok.place at in
    let within = there.within in omega arith

pub invariant_of-self : goal.invariant_of-self
invariant_of-self c =
    let at : seek (byte_order c.args.key.now) (members_view c.self.inside.pairs.items) ≡ Ok c.in-Ok.place = grind (arith, common_steps) in
    written_ascends c.args.key.now c.replace.new.dest c.self.inside.pairs.items c.in-Ok.place c.index_mut-pair.result.now c.self.invariant at c.index_mut-pair.ensures.value

pub returns-in-Ok-clause-value : goal.returns-in-Ok-clause-value
returns-in-Ok-clause-value c =
    let at : seek (byte_order c.args.key.now) (members_view c.self.inside.pairs.items) ≡ Ok c.in-Ok.place = grind (arith, common_steps) in
    let there = found c.args.key.now c.self.inside.pairs.items c.in-Ok.place at in
    ap (λ (x : Tree). Some (view x)) c.replace.ensures.value ∙ ap (λ (x : List ℕ × Tree). Some (view x.1)) c.index_mut-pair.ensures.value
    ∙ sym (there.value c.index_mut-pair.result.now) ∙ ap (member_at c.args.key.now) c.self.view_is

pub returns-in-Ok-clause-left : goal.returns-in-Ok-clause-left
returns-in-Ok-clause-left c =
    let at : seek (byte_order c.args.key.now) (members_view c.self.inside.pairs.items) ≡ Ok c.in-Ok.place = grind (arith, common_steps) in
    let there = found c.args.key.now c.self.inside.pairs.items c.in-Ok.place at in
    rw (c.replace.ensures.after, ← c.self.view_is) (there.leaves c.index_mut-pair.result.now Null c.index_mut-pair.ensures.value)

pub returns-in-Err-clause-value : goal.returns-in-Err-clause-value
returns-in-Err-clause-value c =
    let at : seek (byte_order c.args.key.now) (members_view c.self.inside.pairs.items) ≡ Err c.in-Err.field-0 = grind (arith, common_steps) in
    let none = not_found c.args.key.now (members_view c.self.inside.pairs.items) c.in-Err.field-0 c.self.invariant at in
    sym none.0 ∙ ap (member_at c.args.key.now) c.self.view_is

pub returns-in-Err-clause-left : goal.returns-in-Err-clause-left
returns-in-Err-clause-left c =
    let at : seek (byte_order c.args.key.now) (members_view c.self.inside.pairs.items) ≡ Err c.in-Err.field-0 = grind (arith, common_steps) in
    let none = not_found c.args.key.now (members_view c.self.inside.pairs.items) c.in-Err.field-0 c.self.invariant at in
    rw (← c.self.view_is) (sym (none.2 null))
