use Rattle.std.proofs.Common.{ℕ, List, ap, subst}
use Rattle.std.specs.Prelude.{Contains, MatchBool}
use Rattle.shard_map.proofs.Listing.{marked_or_not}
use Rattle.shard_map.proofs.handles.ShardMap.entered.Goals as goal

pub returns : goal.returns
returns g c =
    let Told : List (ℕ × ℕ) → Type 0 = λ pairs. MatchBool c.has_mark.result (Contains pairs (c.args.shard, c.args.piece)) (Contains pairs (c.args.shard, c.args.piece) → ⊥) in
    subst Told (ap (λ z. z.view.pairs) c.seat.view_is) (marked_or_not c.seat.inside.pieces c.seat.inside.marks.items c.seat.inside.seat.me.0.pairs c.args.shard c.args.piece c.has_mark.result c.seat.invariant.2.marked c.has_mark.ensures)
