use Rattle.ld_tree.proofs.ViewLemmas.{ascending_nil}
use Rattle.ld_tree.proofs.value.Members.new.Goals as goal

pub invariant_of-result : goal.invariant_of-result
invariant_of-result c = rw c.new.ensures.items ascending_nil
