use Rattle.std.proofs.Common.{◌≡◌, ◌≤◌, ◌^◌, drop}
use Rattle.ld_json.specs.Numbers.{is_within}
use Rattle.ld_json.proofs.numbers.is_within.Given as goal

abbrev pub invariant-loop-digit : goal.invariant-loop-digit
invariant-loop-digit l =
    record {
      small : l.number ≤ 2 ^ 53;
      left : is_within l.number (drop l.digit-index l.digits) ≡ is_within 0 l.digits;
    }
