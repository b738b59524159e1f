use Rattle.std.proofs.Common.{◌∙◌}
use Rattle.ld_tree.proofs.Walks.{before_next_entry}
use Rattle.ld_tree.proofs.value.Tree.+copy.Goals as goal

pub append-requires : goal.append-requires
append-requires t c =
    let step = c.in-Some-2.ensures.steps in
    let given = c.into_iter-key-iterator.ensures.into_iter_gives in
    rw c.in_ok-copy-in-Map.ensures (before_next_entry c.loop-key.pairs _ _ _ _ given.1 (c.loop-key.invariant.copied ∙ given.0) step)
