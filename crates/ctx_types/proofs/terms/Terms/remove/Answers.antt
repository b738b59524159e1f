use Rattle.std.proofs.Common.{sym}
use Rattle.std.specs.BTreeMap.{is_at}
use Rattle.ld_model.specs.Tree.{byte_order}
use Rattle.ctx_types.proofs.Sides.{remove_ascends, removes_nothing}
use Rattle.ctx_types.proofs.terms.Terms.remove.Goals as goal

pub invariant_of-self : goal.invariant_of-self
invariant_of-self c =
    let rest = rw c.in-Some.is at c.in_ok-without.ensures.rest in
    rw rest (remove_ascends (is_at (byte_order c.args.key.now)) c.self.inside.table c.self.invariant)

pub returns-in-None-clause-ok : goal.returns-in-None-clause-ok
returns-in-None-clause-ok c =
    let none = rw (c.in-None.is, c.self.view_is) at c.in_ok-without.ensures.value in
    sym (removes_nothing (is_at (byte_order c.args.key.now)) c.args.self.now (sym none))
