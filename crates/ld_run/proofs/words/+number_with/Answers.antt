use Rattle.std.proofs.Common.{arith}
use Rattle.ld_run.proofs.Weights.{too_great}
use Rattle.ld_run.proofs.words.+number_with.Goals as goal

pub returns-then-number-gt-GREATEST_WEIGHT : goal.returns-then-number-gt-GREATEST_WEIGHT
returns-then-number-gt-GREATEST_WEIGHT t c = too_great c.args.number c.args.digits.now (grind (arith, c.if-number-gt-GREATEST_WEIGHT.true))
