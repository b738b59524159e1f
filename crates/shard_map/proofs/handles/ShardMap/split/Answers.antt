use Rattle.std.proofs.Common.{arith, sym, ap, ◌∙◌, subst, ◌≤◌}
use Rattle.shard_map.proofs.handles.ShardMap.split.Goals as goal
use Rattle.shard_map.proofs.Sharing.{splits}

pub split_seat-half-requires : goal.split_seat-half-requires
split_seat-half-requires g c =
    let i = c.self.invariant in
    let words = i.0 in
    let some = i.4 in
    let is = i.3 in (
      ap (λ z. z.which) c.seat.view_is ∙ (c.requires.seat.0 ∙ ap (λ z. z.which) (sym c.self.view_is)),
      omega arith,
      splits g.J.Piecework.count g.J.Piecework.shard_count g.J.Piecework.fails g.J.Piecework.part g.J.Part.Merge.start_of g.J.Part.Merge.end_of g.J.Part.Merge.both c.self.inside.table.shared.key _ c.seat.inside.seat.me.0 c.seat.invariant.2.idle (subst (λ n. 2 ≤ n) (ap (λ z. z.view.share) (sym c.seat.view_is)) c.requires.share),
    )
