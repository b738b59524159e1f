use Rattle.std.proofs.Common.{arith, sym, ap, ◌∙◌, subst, ◌<◌, ◌∷◌, Some, refl}
use Rattle.std.proofs.lemmas.Bool.{eq-eqb}
use Rattle.std.proofs.lemmas.Bool.Decides.{when_true}
use Rattle.atomic_table.specs.Table.{rest}
use Rattle.shard_map.proofs.handles.ShardMap.take_turn.Goals as goal
use Rattle.shard_map.proofs.Moves.{tries}

pub compare_exchange-found-requires : goal.compare_exchange-found-requires
compare_exchange-found-requires g c =
    let i = c.self.invariant in
    let job = ap (λ z. z.job) (sym c.self.view_is) in
    let low : c.args.shard < g.J.Piecework.shard_count c.self.inside.table.shared.key = subst (λ (j : g.row.J.Denot). c.args.shard < g.J.Piecework.shard_count j) job c.requires.range.0 in (
      c.requires.seat.0 ∙ ap (λ z. z.which) (sym c.self.view_is),
      omega arith,
      tries g.J.Piecework.count g.J.Piecework.shard_count g.J.Piecework.fails g.J.Piecework.part g.J.Part.Merge.start_of g.J.Part.Merge.end_of g.J.Part.Merge.both c.self.inside.table.shared.key _ c.args.seat.now.me.0 c.args.seat.now.me.1 c.args.shard _ c.args.even _ low c.requires.range.1 c.requires.seat.2 c.requires.some c.requires.even refl,
    )

pub exchange-requires : goal.exchange-requires
exchange-requires g c =
    let h = c.compare_exchange-found.ensures in
    let t = when_true _ _ (eq-eqb _ _ c.if-found-even.false) h.2 in (
      h.0 ∙ c.requires.seat.0 ∙ ap (λ z. z.which) (sym c.self.view_is),
      (Some t.0, t.1 ∙ ap (λ l. (c.args.shard, Some t.0) ∷ l) (sym (ap rest t.1))),
    )
