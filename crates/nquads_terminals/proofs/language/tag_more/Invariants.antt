use Rattle.std.proofs.Common.{◌≡◌, ◌≤◌, ◌+◌, ◌-◌, drop, length, true}
use Rattle.nquads_terminals.specs.Terminals.{tag_more}
use Rattle.nquads_terminals.proofs.language.tag_more.Given as goal

abbrev pub invariant-loop-at : goal.invariant-loop-at
invariant-loop-at l = (l.at ≤ length l.bytes) × (l.at + tag_more l.first (drop l.at l.bytes) ≡ tag_more true l.bytes)

abbrev pub decreases-loop-at : goal.decreases-loop-at
decreases-loop-at l = length l.bytes - l.at
