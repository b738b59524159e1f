use Rattle.std.proofs.Common.{◌≡◌, take}
use Rattle.nquads_text.specs.Written.{written}
use Rattle.nquads_text.specs.Blocks.{Puts}
use Rattle.nquads_text.proofs.write.write_each.Given as goal

abbrev pub invariant-loop-quad : goal.invariant-loop-quad
invariant-loop-quad g l =
    record {
      put : Puts (g.K.Sink.held l.initial.sink) l.initial.block (g.K.Sink.held l.sink) l.block (written (take l.quad-index l.quads));
      no_fault : g.K.Sink.faults l.sink ≡ g.K.Sink.faults l.initial.sink;
    }
