use Rattle.std.proofs.Common.{◌≡◌, ◌≤◌, ◌-◌, length, take}
use Rattle.std.specs.List.{flat_map}
use Rattle.nquads_text.specs.Written.{escaped}
use Rattle.nquads_text.specs.Blocks.{Puts}
use Rattle.nquads_text.proofs.write.write_escaped.Given as goal

abbrev pub invariant-loop-at : goal.invariant-loop-at
invariant-loop-at g l =
    record {
      within : l.at ≤ length l.bytes;
      put : Puts (g.K.Sink.held l.initial.sink) l.initial.block (g.K.Sink.held l.sink) l.block (flat_map escaped (take l.at l.bytes));
      no_fault : g.K.Sink.faults l.sink ≡ g.K.Sink.faults l.initial.sink;
    }

abbrev pub decreases-loop-at : goal.decreases-loop-at
decreases-loop-at g l = length l.bytes - l.at
