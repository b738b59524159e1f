use Rattle.std.proofs.Common.{◌≡◌, ◌≤◌, ◌+◌, length}
use Rattle.nquads_text.specs.Lines.{lines, read_from, prepended}
use Rattle.nquads_text.proofs.lines.read_lines.Given as goal

abbrev pub invariant-loop-rest : goal.invariant-loop-rest
invariant-loop-rest l =
    (l.count + length l.rest ≤ length l.bytes) × (prepended l.quads.items (read_from (l.first_line + l.count) (lines l.rest)) ≡ read_from l.first_line (lines l.bytes))

abbrev pub decreases-loop-rest : goal.decreases-loop-rest
decreases-loop-rest l = length l.rest
