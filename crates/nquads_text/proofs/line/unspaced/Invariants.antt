use Rattle.std.proofs.Common.{◌≡◌, ◌≤◌, ◌-◌, drop, length}
use Rattle.std.specs.List.{prefix_len}
use Rattle.nquads_text.specs.Statement.{is_blank}
use Rattle.nquads_text.proofs.line.unspaced.Given as goal

abbrev pub invariant-loop-place : goal.invariant-loop-place
invariant-loop-place l =
    (l.place ≤ length l.line) × (drop (prefix_len is_blank (drop l.place l.line)) (drop l.place l.line) ≡ drop (prefix_len is_blank (drop l.at l.line)) (drop l.at l.line))

abbrev pub decreases-loop-place : goal.decreases-loop-place
decreases-loop-place l = length l.line - l.place
