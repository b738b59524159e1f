use Rattle.std.proofs.Common.{◌≡◌, take}
use Rattle.nquads_text.specs.Blocks.{Puts, joined}
use Rattle.nquads_text.proofs.block.put_all.Given as goal

abbrev pub invariant-loop-piece : goal.invariant-loop-piece
invariant-loop-piece g l =
    record {
      put : Puts (g.K.Sink.held l.initial.sink) l.initial.block (g.K.Sink.held l.sink) l.block (joined (take l.piece-index l.pieces));
      no_fault : g.K.Sink.faults l.sink ≡ g.K.Sink.faults l.initial.sink;
    }
