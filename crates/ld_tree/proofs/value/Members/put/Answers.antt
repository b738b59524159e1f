use Rattle.std.proofs.Common.{◌≡◌, Ok, Err, arith}
use Rattle.std.proofs.lemmas.Grind.{common_steps}
use Rattle.std_collections.specs.Layout.BTreeMap.{seek}
use Rattle.ld_model.specs.Tree.{byte_order}
use Rattle.ld_tree.specs.View.{members_view}
use Rattle.ld_tree.proofs.ViewLemmas.{found, written_ascends, room_within, inserted, inserted_ascends}
use Rattle.ld_tree.proofs.value.Members.put.Goals as goal

pub index_mut-requires : goal.index_mut-requires
index_mut-requires c =
    let at : seek (byte_order c.args.key.now) (members_view c.self.inside.pairs.items) ≡ Ok c.in-Ok.place = grind (arith, common_steps) in
    let there = found c.args.key.now c.self.inside.pairs.items c.in-Ok.place at in
    let within = there.within in omega arith

pub invariant_of-self : goal.invariant_of-self
invariant_of-self c =
    let at : seek (byte_order c.args.key.now) (members_view c.self.inside.pairs.items) ≡ Ok c.in-Ok.place = grind (arith, common_steps) in
    written_ascends c.args.key.now c.args.tree c.self.inside.pairs.items c.in-Ok.place c.index_mut.result.now c.self.invariant at c.index_mut.ensures.value

pub returns-in-Ok-clause-ok : goal.returns-in-Ok-clause-ok
returns-in-Ok-clause-ok c =
    let at : seek (byte_order c.args.key.now) (members_view c.self.inside.pairs.items) ≡ Ok c.in-Ok.place = grind (arith, common_steps) in
    let there = found c.args.key.now c.self.inside.pairs.items c.in-Ok.place at in
    rw (← c.self.view_is) (there.writes c.index_mut.result.now c.args.tree c.index_mut.ensures.value)

pub insert-requires : goal.insert-requires
insert-requires c =
    let at : seek (byte_order c.args.key.now) (members_view c.self.inside.pairs.items) ≡ Err c.in-Err.place = grind (arith, common_steps) in
    let within = room_within c.args.key.now c.self.inside.pairs.items c.in-Err.place at in omega arith

pub invariant_of-self-in-Err : goal.invariant_of-self-in-Err
invariant_of-self-in-Err c =
    let at : seek (byte_order c.args.key.now) (members_view c.self.inside.pairs.items) ≡ Err c.in-Err.place = grind (arith, common_steps) in
    rw (c.in_ok-insert-in-Err.ensures.items, c.in_ok-new-in-Err.ensures) (inserted_ascends c.args.key.now c.args.tree c.self.inside.pairs.items c.in-Err.place c.self.invariant at)

pub returns-in_ok-insert-in-Err-clause-ok : goal.returns-in_ok-insert-in-Err-clause-ok
returns-in_ok-insert-in-Err-clause-ok c =
    let at : seek (byte_order c.args.key.now) (members_view c.self.inside.pairs.items) ≡ Err c.in-Err.place = grind (arith, common_steps) in
    rw (c.in_ok-insert-in-Err.ensures.items, c.in_ok-new-in-Err.ensures, ← c.self.view_is) (inserted c.args.key.now c.args.tree c.self.inside.pairs.items c.in-Err.place at)
