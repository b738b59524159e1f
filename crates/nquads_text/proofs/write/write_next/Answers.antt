use Rattle.nquads_text.proofs.Puts.{fails, faulted, passes_then}
use Rattle.std.proofs.Common.{◌++◌, ◌∷◌, []}
use Rattle.nquads_text.specs.Written.{term_text}
use Rattle.nquads_text.proofs.write.write_next.Goals as goal

pub returns-in_err-put-clause-bytes : goal.returns-in_err-put-clause-bytes
returns-in_err-put-clause-bytes g c =
    let held = g.K.Sink.held in
    faulted c.from_residual.result (held c.args.sink.now) (held c.put.new.sink) c.args.block.now c.put.new.block ((32 ∷ []) ++ term_text c.args.term.now) c.from_residual.ensures.0 (fails (held c.args.sink.now) (held c.put.new.sink) c.args.block.now ((32 ∷ [])) (term_text c.args.term.now) c.in_err-put.ensures.bytes)

pub returns-clause-bytes : goal.returns-clause-bytes
returns-clause-bytes g c =
    let held = g.K.Sink.held in
    passes_then c.write_term.result (held c.args.sink.now) (held c.put.new.sink) (held c.write_term.new.sink) c.args.block.now c.put.new.block c.write_term.new.block ((32 ∷ [])) (term_text c.args.term.now) c.in_ok-put.ensures.bytes c.write_term.ensures.bytes
