use Rattle.std.proofs.Common.{◌<◌, length, arith, ap}
use Rattle.std.specs.Prelude.{decimal}
use Rattle.std.proofs.lemmas.Fmt.{decimal_nonempty}
use Rattle.std.proofs.lemmas.Str.{IsCharBoundary-from_ascii}
use Rattle.rdf_terms.proofs.number.double_text.Goals as goal

pub split_at-requires : goal.split_at-requires
split_at-requires c =
    let some : 0 < length (decimal c.unsigned_abs.result) = decimal_nonempty c.unsigned_abs.result (omega arith) in
    IsCharBoundary-from_ascii c.format-digits.result.now 1 c.format-digits.ensures.ascii (omega (arith, ap length c.format-digits.ensures.text))
