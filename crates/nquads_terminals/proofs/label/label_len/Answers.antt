use Rattle.nquads_terminals.proofs.Labels.{dot_kept}
use Rattle.std.proofs.Common.{arith}
use Rattle.nquads_terminals.proofs.label.label_len.Goals as goal

pub loop-at-preserved : goal.loop-at-preserved
loop-at-preserved c = dot_kept c.args.bytes.now c.from.result.now c.loop-at.at c.loop-at.end _ (omega arith) c.from.ensures c.in-Dot.ensures c.loop-at.invariant
