use Rattle.std.proofs.Common.{arith, ◌∙◌, ◌+◌, ap, replicate}
use Rattle.std.proofs.lemmas.List.{take-replicate}
use Rattle.shard_map.proofs.Sharing.{opens}
use Rattle.shard_map.proofs.handles.ShardMap.open.Goals as goal

pub new-requires : goal.new-requires
new-requires g c =
    let n = c.shards-shards.ensures in
    let p = c.pieces-pieces.ensures in
    let most = c.requires.shards.1 in
    opens g.J.Piecework.count g.J.Piecework.shard_count g.J.Piecework.fails g.J.Piecework.part g.J.Part.Merge.start_of g.J.Part.Merge.end_of g.J.Part.Merge.both c.args.job.now _ c.in_ok-slots.slots.items (c.pieces-pieces.result + 1)
    (take-replicate c.shards-shards.result 64 0 (omega arith) ∙ ap (λ k. replicate k 0) n)
    (c.in_ok-slots.ensures.count ∙ n)
    c.in_ok-slots.ensures.fresh
    (omega arith)
