use Rattle.ctx_types.specs.View.{definition_view}
use Rattle.ctx_types.proofs.Sides.{insert_ascends}
use Rattle.ctx_types.proofs.terms.Terms.put.Goals as goal

pub invariant_of-self : goal.invariant_of-self
invariant_of-self c = rw c.in_ok-self-inside.ensures (insert_ascends c.args.key (definition_view c.args.definition) c.self.inside.table c.self.invariant)
