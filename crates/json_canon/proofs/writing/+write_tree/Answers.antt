use Rattle.std.proofs.Common.{ap, rules, refl}
use Rattle.json.proofs.OnLiterals.{json_on_literals}
use Rattle.ld_tree.specs.View.{view}
use Rattle.json_canon.proofs.Members.{borrowed_is_lighter, object_written}
use Rattle.json_canon.proofs.writing.+write_tree.Goals as goal

pub number-requires : goal.number-requires
unfolding json_on_literals
number-requires t c = refl

pub write_tree-requires-in-loop-name : goal.write_tree-requires-in-loop-name
write_tree-requires-in-loop-name t c =
    let light = borrowed_is_lighter c.args.tree.now c.in-Map.members c.in-Map.members c.as_slice-name-items.result.now c.loop-name.name-index c.loop-name-item.result (ap view c.in-Map.is) refl (rw c.as_slice-name-items.ensures.value c.in_ok-sorted-in-Map.ensures) c.loop-name-test.true c.loop-name-item.is in
    (search rules, tt)

pub returns-after-loop-name-clause-tokens : goal.returns-after-loop-name-clause-tokens
returns-after-loop-name-clause-tokens t c =
    object_written c.end_object.result c.args.tree.now c.in-Map.members c.in-Map.members c.as_slice-name-items.result.now c.loop-name.name-index c.args.out.now.tokens c.end_object.new.self.tokens c.loop-name.out.tokens (ap view c.in-Map.is) refl (rw c.as_slice-name-items.ensures.value c.in_ok-sorted-in-Map.ensures) c.loop-name-test.false c.loop-name.invariant.tokens c.end_object.ensures.ok
