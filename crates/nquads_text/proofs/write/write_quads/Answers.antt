use Rattle.nquads_text.proofs.Puts.{left_front, last_fails}
use Rattle.nquads_text.specs.Written.{written}
use Rattle.nquads_text.proofs.write.write_quads.Goals as goal

pub returns-in_err-write_each-clause-front : goal.returns-in_err-write_each-clause-front
returns-in_err-write_each-clause-front g c =
    let held = g.K.Sink.held in
    let fault = rw c.new-block.ensures at c.in_err-write_each.ensures.bytes in
    left_front (held c.args.sink.now) (held c.write_each.new.sink) (written c.args.quads.now) fault

pub returns-in_err-flush-clause-front : goal.returns-in_err-flush-clause-front
returns-in_err-flush-clause-front g c =
    let held = g.K.Sink.held in
    let first = rw c.new-block.ensures at c.in_ok-write_each.ensures.bytes in
    last_fails (held c.args.sink.now) (held c.write_each.new.sink) (held c.flush.new.sink) c.write_each.new.block (written c.args.quads.now) first c.in_err-flush.ensures.bytes

pub returns-clause-front : goal.returns-clause-front
returns-clause-front g c =
    let held = g.K.Sink.held in
    let first = rw c.new-block.ensures at c.in_ok-write_each.ensures.bytes in
    last_fails (held c.args.sink.now) (held c.write_each.new.sink) (held c.flush.new.sink) c.write_each.new.block (written c.args.quads.now) first (c.flush.new.block, c.in_ok-flush.ensures.bytes)
