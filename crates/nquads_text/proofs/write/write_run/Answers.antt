use Rattle.nquads_text.proofs.Puts.{takes_faulted, plain_put, plain_fails, escape_fails}
use Rattle.nquads_text.specs.Written.{escaped}
use Rattle.nquads_text.proofs.write.write_run.Goals as goal

pub returns-in_err-put-clause-bytes : goal.returns-in_err-put-clause-bytes
returns-in_err-put-clause-bytes g c =
    let held = g.K.Sink.held in
    takes_faulted c.from_residual.result (held c.args.sink.now) (held c.put.new.sink) c.args.block.now c.put.new.block escaped c.args.bytes.now c.from_residual.ensures.0 (plain_fails (held c.args.sink.now) (held c.put.new.sink) c.args.block.now c.args.bytes.now c.plain_len-len.result c.plain_len-len.ensures.value c.in_err-put.ensures.bytes)

pub returns-then-len-gt0-clause-bytes : goal.returns-then-len-gt0-clause-bytes
returns-then-len-gt0-clause-bytes g c =
    let held = g.K.Sink.held in
    plain_put (held c.args.sink.now) (held c.put.new.sink) c.args.block.now c.put.new.block c.args.bytes.now c.plain_len-len.result c.plain_len-len.ensures.value c.in_ok-put.ensures.bytes

pub returns-in_err-put-2-clause-bytes : goal.returns-in_err-put-2-clause-bytes
returns-in_err-put-2-clause-bytes g c =
    let held = g.K.Sink.held in
    let fault = rw c.escape_of.ensures at c.in_err-put-2.ensures.bytes in
    takes_faulted c.from_residual-in_err-put-2.result (held c.args.sink.now) (held c.put-2.new.sink) c.args.block.now c.put-2.new.block escaped c.args.bytes.now c.from_residual-in_err-put-2.ensures.0 (escape_fails (held c.args.sink.now) (held c.put-2.new.sink) c.args.block.now c.args.bytes.now c.requires fault)
