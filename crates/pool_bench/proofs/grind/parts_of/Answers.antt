use Rattle.std.proofs.Common.{◌+◌, ◌∷◌, [], length, ap, refl, arith}
use Rattle.std.proofs.lemmas.List.{length-append}
use Rattle.pool_bench.specs.Spans.{span}
use Rattle.pool_bench.proofs.Listed.{each_more}
use Rattle.pool_bench.proofs.grind.parts_of.Goals as goal

pub loop-preserved : goal.loop-preserved
loop-preserved c =
    let i = c.loop.invariant in
    let more = c.in_ok-push.ensures.items in
    let one = span c.args.piece (c.args.piece + 1) in record {
      count = let l = ap length more in let a = length-append c.loop.parts.items (one ∷ []) in let n = i.count in omega arith;
      each = each_more (λ shard. one) c.loop.counter c.loop.parts.items _ one i.count more refl i.each;
    }
