use Rattle.std.proofs.Common.{◌≡◌, ◌+◌, ◌-◌, ◌<◌, vec_len}
use Rattle.std.specs.Io.KnownBytes.{Consumes}
use Rattle.ld_io.proofs.whole.read_within.Given as goal

abbrev pub invariant-loop-source : goal.invariant-loop-source
invariant-loop-source g l =
    record {
      gathered : Consumes (g.S.Source.left l.initial.source) (g.S.Source.left l.source) l.bytes.items;
      no_fault : g.S.Source.faults l.source ≡ g.S.Source.faults l.initial.source;
      room : 0 < vec_len l.buffer;
    }

abbrev pub decreases-loop-source : goal.decreases-loop-source
decreases-loop-source g l = (l.limit + 1) - vec_len l.bytes
