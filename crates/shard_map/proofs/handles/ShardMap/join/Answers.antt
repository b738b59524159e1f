use Rattle.std.proofs.Common.{arith, sym, ap, ◌∙◌, subst, ◌<◌, ◌≡◌, Some}
use Rattle.shard_map.proofs.handles.ShardMap.join.Goals as goal
use Rattle.shard_map.proofs.Sharing.{joins}
use Rattle.shard_map.proofs.Moves.{weighs}
use Rattle.shard_map.proofs.Clauses.{fits_joined}

pub join_seat-requires : goal.join_seat-requires
join_seat-requires g c =
    let i = c.self.invariant in
    let words = i.0 in
    let some = i.4 in
    let is = i.3 in
    let fits = c.seat.invariant.2 in (
      ap (λ z. z.which) c.seat.view_is ∙ (c.requires.seats.0.0 ∙ ap (λ z. z.which) (sym c.self.view_is)),
      ap (λ z. z.which) c.other.view_is ∙ (c.requires.seats.1.0 ∙ ap (λ z. z.which) (sym c.self.view_is)),
      c.other.invariant.0,
      omega arith,
      joins g.J.Piecework.count g.J.Piecework.shard_count g.J.Piecework.fails g.J.Piecework.part g.J.Part.Merge.start_of g.J.Part.Merge.end_of g.J.Part.Merge.both c.self.inside.table.shared.key _ c.seat.inside.seat.me.0 _ c.other.inside.seat.me.0 fits.idle c.other.invariant.2.idle (subst (λ n. 0 < n) fits.same fits.some),
    )

pub load-requires : goal.load-requires
load-requires g c =
    let i = c.self.invariant in
    let words = i.0 in
    let some = i.4 in
    let is = i.3 in (
      c.join_seat.ensures.0 ∙ (ap (λ z. z.which) c.seat.view_is ∙ (c.requires.seats.0.0 ∙ ap (λ z. z.which) (sym c.self.view_is))),
      omega arith,
      weighs g.J.Piecework.count g.J.Piecework.shard_count g.J.Piecework.fails g.J.Piecework.part g.J.Part.Merge.start_of g.J.Part.Merge.end_of g.J.Part.Merge.both c.self.inside.table.shared.key _ c.join_seat.new.seat.me.0 c.join_seat.new.seat.me.1 0 _,
    )

pub invariant_of-seat : goal.invariant_of-seat
invariant_of-seat g c =
    let joined_is = c.join_seat.ensures.2 in
    let weighed = c.load.ensures.2 in
    let own : c.seat.inside.seat.me.0.job ≡ Some c.args.self.now.job = ap (λ z. z.view.job) c.seat.view_is ∙ c.requires.seats.0.1 in
    let own' : c.other.inside.seat.me.0.job ≡ Some c.args.self.now.job = ap (λ z. z.view.job) c.other.view_is ∙ c.requires.seats.1.1 in
    let stays = weighed.1 in (
      weighed.0 ∙ (ap (λ m. m.1) joined_is ∙ c.seat.invariant.0),
      c.seat.invariant.1,
      fits_joined g.J.Piecework.count g.J.Piecework.shard_count c.args.self.now.job c.seat.inside.seat.me.0 c.other.inside.seat.me.0 c.load.new.seat.me.0 c.seat.inside.share c.other.inside.share c.seat.inside.pieces c.other.inside.pieces _ _ c.seat.inside.marks.items c.other.inside.marks.items c.unite.new.marks.items own own' c.seat.invariant.2 c.other.invariant.2 (record { len = c.unite.ensures.len; each = c.unite.ensures.each })
          (stays ∙ ap (λ m. m.0) joined_is)
          (let w = weighed.2 in let e = ap (λ v. v.share) stays in omega arith),
    )
