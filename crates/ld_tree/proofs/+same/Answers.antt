use Rattle.std.proofs.Common.{rules}
use Rattle.ld_tree.proofs.ViewLemmas.{item_weighs, member_weighs, same_trees-lengths, same_members-lengths}
use Rattle.ld_tree.proofs.+same.Goals as goal

pub equality::same_items-returns-then-a-b : goal.equality::same_items-returns-then-a-b
equality::same_items-returns-then-a-b t c = same_trees-lengths c.args.a.now c.args.b.now c.if-a-b.true

pub equality::same_pairs-returns-then-a-b : goal.equality::same_pairs-returns-then-a-b
equality::same_pairs-returns-then-a-b t c = same_members-lengths c.args.a.now c.args.b.now c.if-a-b.true

pub equality::same_items-same-requires : goal.equality::same_items-same-requires
equality::same_items-same-requires t c =
    let weighs = item_weighs c.args.a.now c.loop-number.number c.index-a-number.result c.loop-number-test.true c.index-a-number.is in
    (search rules, tt)

pub equality::same_pairs-same-requires : goal.equality::same_pairs-same-requires
equality::same_pairs-same-requires t c =
    let weighs = member_weighs c.args.a.now c.loop-number.number c.index-a-number.result c.loop-number-test.true c.index-a-number.is in
    (search rules, tt)
