use Rattle.nquads_terminals.proofs.Tags.{tag_next}
use Rattle.std.proofs.Common.{arith}
use Rattle.nquads_terminals.proofs.language.tag_more.Goals as goal

pub loop-at-preserved : goal.loop-at-preserved
loop-at-preserved c = (omega arith, tag_next c.args.bytes.now c.from.result.now c.loop-at.at _ c.loop-at.first c.in-Some.part c.from.ensures c.in-Some.ensures c.loop-at.invariant.1)
