use Rattle.std.proofs.Common.{arith}
use Rattle.std.proofs.lemmas.Grind.{common_steps}
use Rattle.ctx_store.proofs.Lines.{return_dropped, no_return}
use Rattle.ctx_store.proofs.index.without_return.Goals as goal

pub returns-then-last-eq13 : goal.returns-then-last-eq13
returns-then-last-eq13 c =
    return_dropped c.args.line.now c.in-Some.front.now c.in-Some.last.now (grind (arith, common_steps)) c.if-last-eq13.true

pub returns-else-last-eq13 : goal.returns-else-last-eq13
returns-else-last-eq13 c =
    no_return c.args.line.now c.in-Some.front.now c.in-Some.last.now (grind (arith, common_steps)) (grind (arith, common_steps))
