use Rattle.nquads_text.proofs.Puts.{then, fails, fails_second, faulted, passes_then}
use Rattle.std.proofs.Common.{◌++◌}
use Rattle.nquads_text.specs.Written.{term_text, next_text}
use Rattle.nquads_text.proofs.write.write_triple.Goals as goal

pub returns-in_err-write_term-clause-bytes : goal.returns-in_err-write_term-clause-bytes
returns-in_err-write_term-clause-bytes g c =
    let held = g.K.Sink.held in
    faulted c.from_residual.result (held c.args.sink.now) (held c.write_term.new.sink) c.args.block.now c.write_term.new.block (term_text c.args.quad.now.subject ++ next_text c.args.quad.now.predicate ++ next_text c.args.quad.now.object) c.from_residual.ensures.0 (fails (held c.args.sink.now) (held c.write_term.new.sink) c.args.block.now (term_text c.args.quad.now.subject ++ next_text c.args.quad.now.predicate) (next_text c.args.quad.now.object) (fails (held c.args.sink.now) (held c.write_term.new.sink) c.args.block.now (term_text c.args.quad.now.subject) (next_text c.args.quad.now.predicate) c.in_err-write_term.ensures.bytes))

pub returns-in_err-write_next-clause-bytes : goal.returns-in_err-write_next-clause-bytes
returns-in_err-write_next-clause-bytes g c =
    let held = g.K.Sink.held in
    faulted c.from_residual-in_err-write_next.result (held c.args.sink.now) (held c.write_next.new.sink) c.args.block.now c.write_next.new.block (term_text c.args.quad.now.subject ++ next_text c.args.quad.now.predicate ++ next_text c.args.quad.now.object) c.from_residual-in_err-write_next.ensures.0 (fails (held c.args.sink.now) (held c.write_next.new.sink) c.args.block.now (term_text c.args.quad.now.subject ++ next_text c.args.quad.now.predicate) (next_text c.args.quad.now.object) (fails_second (held c.args.sink.now) (held c.write_term.new.sink) (held c.write_next.new.sink) c.args.block.now c.write_term.new.block (term_text c.args.quad.now.subject) (next_text c.args.quad.now.predicate) c.in_ok-write_term.ensures.bytes c.in_err-write_next.ensures.bytes))

pub returns-clause-bytes : goal.returns-clause-bytes
returns-clause-bytes g c =
    let held = g.K.Sink.held in
    passes_then c.write_next-2.result (held c.args.sink.now) (held c.write_next.new.sink) (held c.write_next-2.new.sink) c.args.block.now c.write_next.new.block c.write_next-2.new.block (term_text c.args.quad.now.subject ++ next_text c.args.quad.now.predicate) (next_text c.args.quad.now.object) (then (held c.args.sink.now) (held c.write_term.new.sink) (held c.write_next.new.sink) c.args.block.now c.write_term.new.block c.write_next.new.block (term_text c.args.quad.now.subject) (next_text c.args.quad.now.predicate) c.in_ok-write_term.ensures.bytes c.in_ok-write_next.ensures.bytes) c.write_next-2.ensures.bytes
