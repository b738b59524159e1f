use Rattle.std.proofs.Common.{◌≡◌, ◌<◌, ◌≤◌, ◌-◌, [], length, take}
use Rattle.std.specs.Io.KnownBytes.{Appends}
use Rattle.ld_io.specs.Sinks.{IsUnfinished}
use Rattle.ld_io.proofs.whole.write_all.Given as goal

abbrev pub invariant-loop-at : goal.invariant-loop-at
invariant-loop-at g l =
    record {
      within : l.at ≤ length l.bytes;
      written : Appends (g.K.Sink.held l.initial.sink) (g.K.Sink.held l.sink) (take l.at l.bytes);
      unfinished : 0 < l.at → IsUnfinished (g.K.Sink.finished l.sink);
      untouched : l.bytes ≡ [] → l.sink ≡ l.initial.sink;
      no_fault : g.K.Sink.faults l.sink ≡ g.K.Sink.faults l.initial.sink;
    }

abbrev pub decreases-loop-at : goal.decreases-loop-at
decreases-loop-at g l = length l.bytes - l.at
