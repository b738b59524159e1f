use Rattle.std.proofs.Common.{◌≡◌, ◌-◌, drop, length}
use Rattle.nquads_terminals.specs.Characters.{enclosed, onto}
use Rattle.nquads_terminals.proofs.enclosed.unescaped.Given as goal

abbrev pub invariant-loop-at : goal.invariant-loop-at
invariant-loop-at l = onto l.value.items (enclosed l.kind 0 (drop l.at l.bytes)) ≡ enclosed l.kind 0 l.bytes

abbrev pub decreases-loop-at : goal.decreases-loop-at
decreases-loop-at l = length l.bytes - l.at
