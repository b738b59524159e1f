use Rattle.std.proofs.Common.{arith, sym, ap, ◌∙◌, subst, ◌+◌, ◌≡◌, true, Some, slice_set}
use Rattle.std.specs.Prelude.{vec_capacity}
use Rattle.shard_map.specs.declared.view.View.{View}
use Rattle.shard_map.specs.Views.{spans}
use Rattle.shard_map.specs.Seats.{Fits, HasEntered}
use Rattle.shard_map.proofs.handles.ShardMap.try_enter.Goals as goal
use Rattle.shard_map.proofs.Clauses.{entered_by, fits_by}

pub invariant_of-seat-in-None : goal.invariant_of-seat-in-None
invariant_of-seat-in-None g c =
    let own : c.seat.inside.seat.me.0.job ≡ Some c.args.self.now.job = ap (λ z. z.view.job) c.seat.view_is ∙ c.requires.seat.1 in
    let fits = c.seat.invariant.2 in
    let l = fits.keeps_len c.args.self.now.job own in
    let low = c.requires.range.0 in
    let e = c.in-None.ensures.ended in (
      c.in-None.ensures.carried,
      c.seat.invariant.1,
      subst (λ i. Fits g.J.Piecework.count g.J.Piecework.shard_count c.use_turn.new.seat.me.0 c.seat.inside.share c.seat.inside.pieces (slice_set c.seat.inside.marks.items i true) (vec_capacity c.seat.inside.lists)) (sym c.mark_at-at.ensures)
          (fits_by g.J.Piecework.count g.J.Piecework.shard_count c.args.self.now.job c.seat.inside.seat.me.0 c.look-seen.new.seat.me.0 c.take_turn.new.seat.me.0 c.use_turn.new.seat.me.0 c.args.shard c.args.piece c.look-seen.result (c.look-seen.result + 1) e.0 e.1.1 (spans g.J.Part.Merge.start_of g.J.Part.Merge.end_of c.in-Ok.runs.items)
          own c.requires.range.0 c.requires.range.1 c.look-seen.ensures.read.1 c.in-Ok.ensures.took.1 e.1.0 e.1.2 (omega arith) c.seat.inside.share c.seat.inside.pieces (vec_capacity c.seat.inside.lists) c.seat.inside.marks.items fits),
    )

pub returns-in-None-clause-outcome : goal.returns-in-None-clause-outcome
returns-in-None-clause-outcome g c =
    let own : c.seat.inside.seat.me.0.job ≡ Some c.args.self.now.job = ap (λ z. z.view.job) c.seat.view_is ∙ c.requires.seat.1 in
    let fits = c.seat.invariant.2 in
    let l = fits.keeps_len c.args.self.now.job own in
    let low = c.requires.range.0 in
    let e = c.in-None.ensures.ended in
    subst (λ (v : View g.row.J.Denot). HasEntered v c.use_turn.new.seat.me.0 c.args.shard c.args.piece) (ap (λ z. z.view) c.seat.view_is)
    (entered_by g.J.Piecework.count g.J.Piecework.shard_count c.args.self.now.job c.seat.inside.seat.me.0 c.look-seen.new.seat.me.0 c.take_turn.new.seat.me.0 c.use_turn.new.seat.me.0 c.args.shard c.args.piece c.look-seen.result (c.look-seen.result + 1) e.0 e.1.1 (spans g.J.Part.Merge.start_of g.J.Part.Merge.end_of c.in-Ok.runs.items)
    own c.requires.range.0 c.requires.range.1 c.look-seen.ensures.read.1 c.in-Ok.ensures.took.1 e.1.0 e.1.2 (omega arith))
