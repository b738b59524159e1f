use Rattle.nquads_text.proofs.Gaps.{whole_stops}
use Rattle.std.proofs.Common.{rules, arith}
use Rattle.nquads_text.specs.Statement.{said}
use Rattle.nquads_text.specs.Places.{StopsAt}
use Rattle.nquads_text.proofs.line.said.Goals as goal

pub returns-in_err-quad : goal.returns-in_err-quad
returns-in_err-quad c =
    let stops : StopsAt c.args.line.now c.in_err-quad.field-0.0 (said c.args.line.now) = whole_stops c.args.line.now c.in_ok-at.at c.in_err-quad.field-0.0 (omega (arith, c.in_ok-at.ensures.0)) c.in_ok-at.ensures.1 c.in_err-quad.ensures in
    search rules
