use Rattle.std.proofs.Common.{◌+◌, ◌∷◌, [], length, ap, arith}
use Rattle.std.proofs.lemmas.List.{length-append}
use Rattle.thread_tests.specs.Patches.{patch, patch_of}
use Rattle.thread_tests.proofs.Listed.{each_more}
use Rattle.thread_tests.proofs.patched.patches_of.Goals as goal

pub loop-shard-preserved : goal.loop-shard-preserved
loop-shard-preserved c =
    let i = c.loop-shard.invariant in
    let more = c.in_ok-push.ensures.items in
    let one = patch c.args.piece (c.args.piece + 1) c.fills.result in record {
      count = let l = ap length more in let a = length-append c.loop-shard.parts.items (one ∷ []) in let n = i.count in omega arith;
      each = each_more (λ shard. patch_of shard c.args.piece) c.loop-shard.shard c.loop-shard.parts.items _ one i.count more (ap (patch c.args.piece (c.args.piece + 1)) c.fills.ensures) i.each;
    }
