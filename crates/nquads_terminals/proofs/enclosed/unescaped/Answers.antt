use Rattle.nquads_terminals.proofs.Raw.{one_more}
use Rattle.nquads_terminals.proofs.enclosed.unescaped.Goals as goal

pub loop-at-preserved : goal.loop-at-preserved
loop-at-preserved c =
    let good = rw c.in-Some.is at c.in_ok-len.ensures.good in
    one_more c.args.kind c.args.bytes.now c.from.result.now c.loop-at.value.items c.take_character.new.value.items good.0 c.loop-at.at c.in-Some.len _ c.from.ensures good.1 good.2 c.loop-at.invariant
