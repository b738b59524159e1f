use Rattle.std.proofs.Common.{◌≡◌, drop}
use Rattle.ld_json.specs.Numbers.{numbers, first_refused, refused_number}
use Rattle.ld_json.proofs.numbers.refused_number.Given as goal

abbrev pub invariant-loop-at : goal.invariant-loop-at
invariant-loop-at l = first_refused (numbers l.stand l.at (drop l.at l.bytes)) ≡ refused_number l.bytes
