use Rattle.nquads_text.proofs.Gaps.{left_over}
use Rattle.std.proofs.Common.{arith, ap, ◌∙◌}
use Rattle.nquads_text.specs.Statement.{and_then, nothing}
use Rattle.nquads_text.proofs.line.ending.Goals as goal

pub returns-then-next-line : goal.returns-then-next-line
returns-then-next-line c =
    (omega arith, ap (λ r. and_then r nothing) c.in_ok-next.ensures.1 ∙ left_over c.args.line.now c.in_ok-next.next c.if-next-line.true)
