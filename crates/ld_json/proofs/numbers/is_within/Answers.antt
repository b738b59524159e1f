use Rattle.std.proofs.Common.{sym, ◌∙◌, arith}
use Rattle.ld_json.proofs.Digits.{too_great}
use Rattle.ld_json.proofs.numbers.is_within.Goals as goal

pub returns-then-number-gt-GREATEST : goal.returns-then-number-gt-GREATEST
returns-then-number-gt-GREATEST c =
    sym (sym c.loop-digit.invariant.left ∙ too_great c.loop-digit.number c.loop-digit.digit-index c.args.digits.now (omega arith) (omega (arith, c.from.ensures)))
