use Rattle.std.proofs.Common.{sym, ap, subst, ◌∙◌, length}
use Rattle.steal_pool.specs.Pools.{Hands, Deques, IsSeatOf}
use Rattle.crossbeam_deque.specs.Handles.{stealer_deque}
use Rattle.steal_pool.proofs.Lists.{map_length}
use Rattle.steal_pool.proofs.Seats.{Told, seat_of, ready, next_seat, some_first, then_others}
use Rattle.steal_pool.proofs.pool.Pool.next_piece.Goals as goal

pub take_between-piece-requires-clause-ready : goal.take_between-piece-requires-clause-ready
take_between-piece-requires-clause-ready g c = ready c.args.self.now c.self.inside.pieces c.seat.inside.own _ _ (ap (λ (p : Deques). p.which) c.self.view_is) c.self.invariant c.seat.invariant (subst (λ (s : Hands). IsSeatOf c.args.self.now s) (sym c.seat.view_is) c.requires.seat)

pub returns-then-is_some-clause-seat : goal.returns-then-is_some-clause-seat
returns-then-is_some-clause-seat g c = next_seat c.args.self.now c.seat.inside.own c.seat.inside.tokens.items _ c.take_between-piece.result _ _ (subst (λ (s : Hands). IsSeatOf c.args.self.now s) (sym c.seat.view_is) c.requires.seat) c.take_between-piece.ensures.same c.take_between-piece.ensures.took

pub returns-then-is_some-clause-took : goal.returns-then-is_some-clause-took
returns-then-is_some-clause-took g c =
    subst (λ (s : Hands). Told c.args.self.now c.take_between-piece.result s (seat_of c.seat.inside.own c.take_between-piece.new.tokens.items)) c.seat.view_is
    (some_first c.args.self.now c.seat.inside.own c.seat.inside.tokens.items c.take_between-piece.new.tokens.items c.take_between-piece.result _ _ (sym c.is_some.ensures ∙ c.if-is_some.true) (subst (λ (s : Hands). IsSeatOf c.args.self.now s) (sym c.seat.view_is) c.requires.seat) c.take_between-piece.ensures.same c.take_between-piece.ensures.took)

pub returns-clause-seat : goal.returns-clause-seat
returns-clause-seat g c =
    let first = next_seat c.args.self.now c.seat.inside.own c.seat.inside.tokens.items c.take_between-piece.new.tokens.items c.take_between-piece.result _ _ (subst (λ (s : Hands). IsSeatOf c.args.self.now s) (sym c.seat.view_is) c.requires.seat) c.take_between-piece.ensures.same c.take_between-piece.ensures.took in
    next_seat c.args.self.now c.seat.inside.own c.take_between-piece.new.tokens.items _ c.take_between.result _ _ first c.take_between.ensures.same c.take_between.ensures.took

pub returns-clause-took : goal.returns-clause-took
returns-clause-took g c =
    let long = c.len.ensures ∙ (c.self.inside.thieves.ok.0 ∙ (sym (map_length stealer_deque c.self.inside.thieves.items) ∙ ap (λ (p : Deques). length p.which) c.self.view_is)) in
    subst (λ (s : Hands). Told c.args.self.now c.take_between.result s (seat_of c.seat.inside.own c.take_between.new.tokens.items)) c.seat.view_is
    (then_others c.args.self.now c.seat.inside.own c.len.result c.seat.inside.tokens.items c.take_between-piece.new.tokens.items c.take_between.new.tokens.items c.take_between-piece.result c.take_between.result long (subst (λ (s : Hands). IsSeatOf c.args.self.now s) (sym c.seat.view_is) c.requires.seat)
    c.take_between-piece.ensures.same (sym c.is_some.ensures ∙ c.if-is_some.false) c.take_between-piece.ensures.took c.take_between.ensures.same c.take_between.ensures.took)
