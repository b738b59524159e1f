use Rattle.nquads_text.proofs.Puts.{faulted, run_then, run_fails}
use Rattle.std.proofs.Common.{rules, arith}
use Rattle.std.specs.List.{flat_map}
use Rattle.nquads_text.specs.Written.{escaped}
use Rattle.nquads_text.proofs.write.write_escaped.Goals as goal

pub returns-in_err-at-clause-bytes : goal.returns-in_err-at-clause-bytes
returns-in_err-at-clause-bytes g c =
    let held = g.K.Sink.held in
    faulted c.from_residual.result (held c.args.sink.now) (held c.write_run.new.sink) c.args.block.now c.write_run.new.block (flat_map escaped c.args.bytes.now) c.from_residual.ensures.0 (run_fails escaped c.args.bytes.now c.loop-at.at (held c.args.sink.now) (held c.loop-at.sink) (held c.write_run.new.sink) c.args.block.now c.loop-at.block c.loop-at.invariant.put c.in_err-at.ensures.bytes)

pub loop-at-preserved : goal.loop-at-preserved
loop-at-preserved g c =
    let held = g.K.Sink.held in
    record {
      within = grind arith;
      put = run_then escaped c.args.bytes.now c.loop-at.at c.in_ok-at.field-0 (held c.args.sink.now) (held c.loop-at.sink) (held c.write_run.new.sink) c.args.block.now c.loop-at.block c.write_run.new.block c.loop-at.invariant.put c.in_ok-at.ensures.bytes;
      no_fault = search rules;
    }
