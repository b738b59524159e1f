use Rattle.std.proofs.Common.{arith, ◌≡◌, ap, sym, subst, List, length}
use Rattle.std.specs.Mem.Slots.{slots_items, slots_counts}
use Rattle.shard_map.specs.declared.view.View.{View}
use Rattle.shard_map.specs.Rule.{gathered, IsClosed}
use Rattle.shard_map.proofs.Closing.{closes}
use Rattle.shard_map.proofs.handles.ShardMap.close.Goals as goal

pub returns : goal.returns
returns g c =
    let Told : g.row.J.Denot → View g.row.J.Denot → List (List g.row.J-Part.Denot) → Type 0 = IsClosed g.J.Piecework.count g.J.Piecework.shard_count g.J.Piecework.fails g.J.Piecework.part g.J.Part.Merge.start_of g.J.Part.Merge.end_of g.J.Part.Merge.both in
    let lists : List (List g.row.J-Part.Denot) = gathered (slots_items c.close_with.result.words) (slots_items c.close_with.result.slots) in
    let end = c.close_with.ensures in
    let same : length (slots_items c.close_with.result.words) ≡ length (slots_items c.close_with.result.slots) = let a = (slots_counts c.close_with.result.words).0 in let b = (slots_counts c.close_with.result.slots).0 in let n = end.counts.0 in let m = end.counts.1 in let i = c.self.invariant in let i0 = i.0 in let i1 = i.1 in omega arith in
    let h = closes g.J.Piecework.count g.J.Piecework.shard_count g.J.Piecework.fails g.J.Piecework.part g.J.Part.Merge.start_of g.J.Part.Merge.end_of g.J.Part.Merge.both c.self.inside.table.shared.key c.seat.inside.seat.id c.seat.inside.seat.me.0 (slots_items c.close_with.result.words) (slots_items c.close_with.result.slots) c.seat.invariant.2.idle same end.values.2 in
    subst (λ l. Told c.args.self.job c.args.seat.view l) (sym c.take_all.ensures)
    (subst (λ (v : View g.row.J.Denot). Told c.args.self.job v lists) (ap (λ z. z.view) c.seat.view_is)
    (subst (λ (j : g.row.J.Denot). Told j c.seat.inside.seat.me.0 lists) (ap (λ z. z.job) c.self.view_is) h))
