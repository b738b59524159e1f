use Rattle.nquads_text.proofs.Puts.{fails, passes_then}
use Rattle.std.proofs.Common.{rules, List, ℕ, []}
use Rattle.nquads_text.specs.Blocks.{Puts}
use Rattle.nquads_text.proofs.block.put.Goals as goal

pub returns-in_err-flush-clause-bytes : goal.returns-in_err-flush-clause-bytes
returns-in_err-flush-clause-bytes g c =
    let left : (left : List ℕ) × Puts (g.K.Sink.held c.args.sink.now) c.args.block.now (g.K.Sink.held c.flush.new.sink) left c.args.bytes.now = fails (g.K.Sink.held c.args.sink.now) (g.K.Sink.held c.flush.new.sink) c.args.block.now [] c.args.bytes.now c.in_err-flush.ensures.bytes in
    search rules

pub returns-clause-bytes : goal.returns-clause-bytes
returns-clause-bytes g c =
    passes_then c.pass.result (g.K.Sink.held c.args.sink.now) (g.K.Sink.held c.flush.new.sink) (g.K.Sink.held c.pass.new.sink) c.args.block.now c.flush.new.block c.pass.new.block [] c.args.bytes.now c.in_ok-flush.ensures.bytes c.pass.ensures.bytes
