use Rattle.std.proofs.Common.{◌≡◌, ◌+◌, drop}
use Rattle.std.specs.List.{position_or_len}
use Rattle.ld_json.specs.Numbers.{is_break}
use Rattle.ld_json.proofs.numbers.word_of.Given as goal

abbrev pub invariant-loop-end : goal.invariant-loop-end
invariant-loop-end l = l.end + position_or_len is_break (drop l.end l.text) ≡ position_or_len is_break l.text
