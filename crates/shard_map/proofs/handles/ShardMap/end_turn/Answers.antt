use Rattle.std.proofs.Common.{arith, sym, ap, ◌∙◌, subst, ℕ, ◌<◌, ◌≡◌, ◌∷◌, [], true, Some, vec_capacity}
use Rattle.std.specs.Prelude.{Contains}
use Rattle.atomic_table.specs.Table.{rest}
use Rattle.shard_map.specs.declared.view.View.{View}
use Rattle.shard_map.specs.Views.{covers, spans, keep_of}
use Rattle.shard_map.specs.Rule.{IsRun}
use Rattle.shard_map.proofs.handles.ShardMap.end_turn.Goals as goal
use Rattle.shard_map.proofs.Moves.{ends}

pub fetch_add-requires : goal.fetch_add-requires
fetch_add-requires g c =
    let i = c.self.invariant in
    let h = c.exchange.ensures in
    let job = ap (λ z. z.job) (sym c.self.view_is) in
    let low : c.args.shard < g.J.Piecework.shard_count c.self.inside.table.shared.key = subst (λ (j : g.row.J.Denot). c.args.shard < g.J.Piecework.shard_count j) job c.requires.range in
    let stays : c.args.seat.now.me.0 ≡ c.exchange.new.seat.me.0 = sym (ap (λ m. m.0) h.3) in
    let carries : c.exchange.new.seat.me.1 ≡ (c.args.shard, Some c.args.runs) ∷ [] = ap (λ m. m.1) h.3 ∙ ap (λ l. (c.args.shard, Some c.args.runs) ∷ rest l) c.requires.seat.1 in
    let Own : g.row.J.Denot → Type 0 = λ j. (x : g.row.J-Part.Denot) → Contains c.args.runs.items x → IsRun g.J.Piecework.count g.J.Piecework.shard_count g.J.Piecework.fails g.J.Piecework.part g.J.Part.Merge.start_of g.J.Part.Merge.end_of g.J.Part.Merge.both j c.args.shard x in
    let Grows : View g.row.J.Denot → Type 0 = λ v. (p : ℕ) → covers (keep_of v c.args.shard).began p ≡ true → covers (spans g.J.Part.Merge.start_of g.J.Part.Merge.end_of c.args.runs.items) p ≡ true in (
      h.0 ∙ (c.requires.seat.0 ∙ ap (λ z. z.which) (sym c.self.view_is)),
      omega arith,
      ends g.J.Piecework.count g.J.Piecework.shard_count g.J.Piecework.fails g.J.Piecework.part g.J.Part.Merge.start_of g.J.Part.Merge.end_of g.J.Part.Merge.both c.self.inside.table.shared.key _ c.exchange.new.seat.me.0 c.exchange.new.seat.me.1 c.args.shard _ c.args.runs
          carries
          (ap (λ (v : View g.row.J.Denot). v.turn) (sym stays) ∙ c.requires.seat.2)
          (subst (λ (v : View g.row.J.Denot). 0 < v.share) stays c.requires.some)
          c.requires.rises
          (subst Own job c.requires.own)
          (subst (λ (j : g.row.J.Denot). g.J.Piecework.count j < vec_capacity c.args.runs) job c.requires.room)
          (subst Grows stays c.requires.grows),
    )
