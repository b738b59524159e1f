use Rattle.std.proofs.Common.{◌≡◌, ◌+◌, drop}
use Rattle.std.specs.List.{position_or_len}
use Rattle.nquads_text.specs.Lines.{is_line_end}
use Rattle.nquads_text.proofs.lines.line_len.Given as goal

abbrev pub invariant-loop-byte : goal.invariant-loop-byte
invariant-loop-byte l =
    (l.len ≡ l.byte-index) × (l.len + position_or_len is_line_end (drop l.len l.bytes) ≡ position_or_len is_line_end l.bytes)
