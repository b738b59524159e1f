use Rattle.nquads_text.proofs.Puts.{fails, faulted, passes_then}
use Rattle.std.proofs.Common.{◌++◌}
use Rattle.nquads_text.specs.Written.{quoted, annotation}
use Rattle.nquads_text.proofs.write.write_literal.Goals as goal

pub returns-in_err-write_quoted-clause-bytes : goal.returns-in_err-write_quoted-clause-bytes
returns-in_err-write_quoted-clause-bytes g c =
    let held = g.K.Sink.held in
    let fault = rw c.as_str.ensures at c.in_err-write_quoted.ensures.bytes in
    faulted c.from_residual.result (held c.args.sink.now) (held c.write_quoted.new.sink) c.args.block.now c.write_quoted.new.block (quoted c.args.lexical.now ++ annotation c.args.datatype.now c.args.language.now) c.from_residual.ensures.0 (fails (held c.args.sink.now) (held c.write_quoted.new.sink) c.args.block.now (quoted c.args.lexical.now) (annotation c.args.datatype.now c.args.language.now) fault)

pub returns-clause-bytes : goal.returns-clause-bytes
returns-clause-bytes g c =
    let held = g.K.Sink.held in
    let first = rw c.as_str.ensures at c.in_ok-write_quoted.ensures.bytes in
    passes_then c.write_annotation.result (held c.args.sink.now) (held c.write_quoted.new.sink) (held c.write_annotation.new.sink) c.args.block.now c.write_quoted.new.block c.write_annotation.new.block (quoted c.args.lexical.now) (annotation c.args.datatype.now c.args.language.now) first c.write_annotation.ensures.bytes
