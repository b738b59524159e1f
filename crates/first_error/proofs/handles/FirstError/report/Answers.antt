use Rattle.std.proofs.Common.{arith, sym, ap, ◌∙◌, subst, ◌<◌, ◌≡◌, true}
use Rattle.first_error.proofs.handles.FirstError.report.Goals as goal
use Rattle.first_error.proofs.Moves.{reports}

pub fetch_min-requires : goal.fetch_min-requires
fetch_min-requires g c =
    let job = ap (λ z. z.job) (sym c.self.view_is) in
    let i = c.self.invariant in
    let small : c.args.piece < g.J.Piecework.count c.self.inside.table.shared.key = subst (λ (j : g.row.J.Denot). c.args.piece < g.J.Piecework.count j) job c.requires.fails.0 in
    let bad : g.J.Piecework.fails c.self.inside.table.shared.key c.args.piece ≡ true = subst (λ (j : g.row.J.Denot). g.J.Piecework.fails j c.args.piece ≡ true) job c.requires.fails.1 in (
      ap (λ z. z.which) c.seat.view_is ∙ c.requires.seat.0 ∙ ap (λ z. z.which) (sym c.self.view_is),
      omega arith,
      rw c.from.ensures (reports g.J.Piecework.count g.J.Piecework.fails c.self.inside.table.shared.key _ c.seat.inside.seat.me.0 c.seat.inside.seat.me.1 c.args.piece _ small bad),
    )
