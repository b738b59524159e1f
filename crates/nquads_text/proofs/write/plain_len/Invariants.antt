use Rattle.std.proofs.Common.{◌≡◌, ◌+◌, drop}
use Rattle.std.specs.List.{prefix_len}
use Rattle.nquads_text.specs.Written.{is_plain}
use Rattle.nquads_text.proofs.write.plain_len.Given as goal

abbrev pub invariant-loop-byte : goal.invariant-loop-byte
invariant-loop-byte l =
    (l.len ≡ l.byte-index) × (l.len + prefix_len is_plain (drop l.len l.bytes) ≡ prefix_len is_plain l.bytes)
