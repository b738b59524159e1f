use Rattle.ld_tree.proofs.ViewLemmas.{ascending_nil}
use Rattle.ld_tree.proofs.value.Members.with_capacity.Goals as goal

pub invariant_of-result : goal.invariant_of-result
invariant_of-result c = rw c.in_ok-with_capacity.ensures.items ascending_nil
