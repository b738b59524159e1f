use Rattle.nquads_text.proofs.Puts.{faulted, items_then, items_fail}
use Rattle.std.proofs.Common.{rules, List, ℕ, subst}
use Rattle.nquads_text.specs.Blocks.{Puts}
use Rattle.nquads_text.specs.Written.{quad_text, written}
use Rattle.nquads_text.proofs.write.write_each.Goals as goal

pub returns-in_err-write_quad-clause-bytes : goal.returns-in_err-write_quad-clause-bytes
returns-in_err-write_quad-clause-bytes g c =
    let held = g.K.Sink.held in
    let fault = subst (λ q. (left : List ℕ) × Puts (held c.loop-quad.sink) c.loop-quad.block (held c.write_quad.new.sink) left (quad_text q)) c.quad-item.is c.in_err-write_quad.ensures.bytes in
    faulted c.from_residual.result (held c.args.sink.now) (held c.write_quad.new.sink) c.args.block.now c.write_quad.new.block (written c.args.quads.now) c.from_residual.ensures.0 (items_fail quad_text c.args.quads.now c.loop-quad.quad-index c.quad-item.result (held c.args.sink.now) (held c.loop-quad.sink) (held c.write_quad.new.sink) c.args.block.now c.loop-quad.block c.loop-quad-test.true c.loop-quad.invariant.put fault)

pub loop-quad-preserved : goal.loop-quad-preserved
loop-quad-preserved g c =
    let held = g.K.Sink.held in
    let last = subst (λ q. Puts (held c.loop-quad.sink) c.loop-quad.block (held c.write_quad.new.sink) c.write_quad.new.block (quad_text q)) c.quad-item.is c.in_ok-write_quad.ensures.bytes in
    record {
      put = items_then quad_text c.args.quads.now c.loop-quad.quad-index c.quad-item.result (held c.args.sink.now) (held c.loop-quad.sink) (held c.write_quad.new.sink) c.args.block.now c.loop-quad.block c.write_quad.new.block c.loop-quad-test.true c.loop-quad.invariant.put last;
      no_fault = search rules;
    }
