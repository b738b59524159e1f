use Rattle.std.proofs.Common.{◌≡◌, ◌+◌, drop}
use Rattle.std.specs.List.{prefix_len}
use Rattle.nquads_terminals.specs.Characters.{is_raw}
use Rattle.nquads_terminals.proofs.enclosed.raw_len.Given as goal

abbrev pub invariant-loop-byte : goal.invariant-loop-byte
invariant-loop-byte l =
    (l.len ≡ l.byte-index) × (l.len + prefix_len (is_raw l.kind) (drop l.len l.bytes) ≡ prefix_len (is_raw l.kind) l.bytes)
