use Rattle.std.proofs.Common.{length, ap, arith}
use Rattle.ld_io.proofs.Turns.{Appends-more, rest_has_some}
use Rattle.ld_io.proofs.whole.write_all.Goals as goal

pub loop-at-preserved : goal.loop-at-preserved
loop-at-preserved g c =
    let keeps = c.loop-at.invariant in
    let done = c.in_ok-at.ensures in
    let more = Appends-more _ _ _ c.args.bytes.now c.loop-at.at c.in_ok-at.field-0 keeps.within done.bound keeps.written done.bytes in
    record {
      within = grind arith;
      written = more;
      unfinished = λ _. done.finished.0 (done.some (rest_has_some c.args.bytes.now c.loop-at.at c.loop-at-test.true));
      untouched = λ none. absurd (omega (arith, ap length none));
      no_fault = grind arith;
    }
