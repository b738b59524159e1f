use Rattle.std.proofs.Common.{◌≡◌, ◌≤◌, ◌+◌, ◌-◌, drop, length, nat_lt, cond}
use Rattle.nquads_terminals.specs.Terminals.{label_more, label_len}
use Rattle.nquads_terminals.proofs.label.label_len.Given as goal

abbrev pub invariant-loop-at : goal.invariant-loop-at
invariant-loop-at l =
    (l.at ≤ length l.bytes) × (l.end ≤ l.at) × (cond (nat_lt 0 (label_more 0 (drop l.at l.bytes))) (l.at + label_more 0 (drop l.at l.bytes)) l.end ≡ label_len l.bytes)

abbrev pub decreases-loop-at : goal.decreases-loop-at
decreases-loop-at l = length l.bytes - l.at
