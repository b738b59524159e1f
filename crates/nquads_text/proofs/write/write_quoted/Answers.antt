use Rattle.nquads_text.proofs.Puts.{then, fails, fails_second, faulted, passes_then}
use Rattle.std.proofs.Common.{◌≡◌, rules, ◌++◌, ◌∷◌, []}
use Rattle.std.specs.List.{flat_map}
use Rattle.nquads_text.specs.Written.{escaped}
use Rattle.nquads_text.proofs.write.write_quoted.Goals as goal

pub returns-in_err-put-clause-bytes : goal.returns-in_err-put-clause-bytes
returns-in_err-put-clause-bytes g c =
    let held = g.K.Sink.held in
    faulted c.from_residual.result (held c.args.sink.now) (held c.put.new.sink) c.args.block.now c.put.new.block ((34 ∷ []) ++ flat_map escaped c.args.lexical.now ++ (34 ∷ [])) c.from_residual.ensures.0 (fails (held c.args.sink.now) (held c.put.new.sink) c.args.block.now ((34 ∷ []) ++ flat_map escaped c.args.lexical.now) ((34 ∷ [])) (fails (held c.args.sink.now) (held c.put.new.sink) c.args.block.now ((34 ∷ [])) (flat_map escaped c.args.lexical.now) c.in_err-put.ensures.bytes))

pub returns-in_err-write_escaped-clause-bytes : goal.returns-in_err-write_escaped-clause-bytes
returns-in_err-write_escaped-clause-bytes g c =
    let held = g.K.Sink.held in
    let same : c.as_bytes.result.now ≡ c.args.lexical.now = search rules in
    let fault = rw same at c.in_err-write_escaped.ensures.bytes in
    faulted c.from_residual-in_err-write_escaped.result (held c.args.sink.now) (held c.write_escaped.new.sink) c.args.block.now c.write_escaped.new.block ((34 ∷ []) ++ flat_map escaped c.args.lexical.now ++ (34 ∷ [])) c.from_residual-in_err-write_escaped.ensures.0 (fails (held c.args.sink.now) (held c.write_escaped.new.sink) c.args.block.now ((34 ∷ []) ++ flat_map escaped c.args.lexical.now) ((34 ∷ [])) (fails_second (held c.args.sink.now) (held c.put.new.sink) (held c.write_escaped.new.sink) c.args.block.now c.put.new.block ((34 ∷ [])) (flat_map escaped c.args.lexical.now) c.in_ok-put.ensures.bytes fault))

pub returns-clause-bytes : goal.returns-clause-bytes
returns-clause-bytes g c =
    let held = g.K.Sink.held in
    let same : c.as_bytes.result.now ≡ c.args.lexical.now = search rules in
    let second = rw same at c.in_ok-write_escaped.ensures.bytes in
    passes_then c.put-2.result (held c.args.sink.now) (held c.write_escaped.new.sink) (held c.put-2.new.sink) c.args.block.now c.write_escaped.new.block c.put-2.new.block ((34 ∷ []) ++ flat_map escaped c.args.lexical.now) ((34 ∷ [])) (then (held c.args.sink.now) (held c.put.new.sink) (held c.write_escaped.new.sink) c.args.block.now c.put.new.block c.write_escaped.new.block ((34 ∷ [])) (flat_map escaped c.args.lexical.now) c.in_ok-put.ensures.bytes second) c.put-2.ensures.bytes
