use Rattle.std.proofs.Common.{arith, sym, ap, ◌∙◌, subst, ◌<◌}
use Rattle.shard_map.proofs.handles.ShardMap.look.Goals as goal
use Rattle.shard_map.proofs.Moves.{reads}

pub load-requires : goal.load-requires
load-requires g c =
    let i = c.self.invariant in
    let job = ap (λ z. z.job) (sym c.self.view_is) in
    let low : c.args.shard < g.J.Piecework.shard_count c.self.inside.table.shared.key = subst (λ (j : g.row.J.Denot). c.args.shard < g.J.Piecework.shard_count j) job c.requires.range in (
      c.requires.seat.0 ∙ ap (λ z. z.which) (sym c.self.view_is),
      omega arith,
      reads g.J.Piecework.count g.J.Piecework.shard_count g.J.Piecework.fails g.J.Piecework.part g.J.Part.Merge.start_of g.J.Part.Merge.end_of g.J.Part.Merge.both c.self.inside.table.shared.key _ c.args.seat.now.me.0 c.args.seat.now.me.1 c.args.shard _ low c.requires.seat.2,
    )
