use Rattle.std.proofs.Common.{◌≡◌, ◌+◌, drop}
use Rattle.std.specs.List.{position_or_len}
use Rattle.iri_ref.specs.Parts.{is}
use Rattle.nquads_terminals.proofs.iri.place_of.Given as goal

abbrev pub invariant-loop-byte : goal.invariant-loop-byte
invariant-loop-byte l =
    (l.place ≡ l.byte-index) × (l.place + position_or_len (is l.mark) (drop l.place l.bytes) ≡ position_or_len (is l.mark) l.bytes)
