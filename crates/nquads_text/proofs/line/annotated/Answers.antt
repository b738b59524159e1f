use Rattle.nquads_text.proofs.Gaps.{typed_at}
use Rattle.std.proofs.Common.{sym, subst}
use Rattle.nquads_text.specs.Places.{IsPart}
use Rattle.nquads_text.proofs.line.annotated.Goals as goal

pub returns-then-starts_with : goal.returns-then-starts_with
returns-then-starts_with c =
    subst (IsPart c.args.line.now c.typed.result) (sym (typed_at c.args.line.now c.args.lexical c.args.at (sym c.if-starts_with.ensures.value))) c.typed.ensures
