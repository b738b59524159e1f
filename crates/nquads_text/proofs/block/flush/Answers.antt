use Rattle.nquads_text.proofs.Puts.{front_left}
use Rattle.std.proofs.Common.{rules, List, ℕ, []}
use Rattle.nquads_text.specs.Blocks.{Puts}
use Rattle.nquads_text.proofs.block.flush.Goals as goal

pub returns-in_err-write_all-clause-bytes : goal.returns-in_err-write_all-clause-bytes
returns-in_err-write_all-clause-bytes g c =
    let left : (left : List ℕ) × Puts (g.K.Sink.held c.args.sink.now) c.bytes.result.now (g.K.Sink.held c.write_all.new.sink) left [] = front_left (g.K.Sink.held c.args.sink.now) (g.K.Sink.held c.write_all.new.sink) c.bytes.result.now c.in_err-write_all.ensures.front in
    let here : (left : List ℕ) × Puts (g.K.Sink.held c.args.sink.now) c.args.block.now (g.K.Sink.held c.write_all.new.sink) left [] = rw (← c.bytes.ensures) left in
    search rules
