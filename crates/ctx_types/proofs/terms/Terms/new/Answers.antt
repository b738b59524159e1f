use Rattle.ctx_types.specs.Context.{Definition}
use Rattle.ctx_types.proofs.Sides.{ascending_nil}
use Rattle.ctx_types.proofs.terms.Terms.new.Goals as goal

pub invariant_of-result : goal.invariant_of-result
invariant_of-result c = rw c.new.ensures (ascending_nil Definition)
