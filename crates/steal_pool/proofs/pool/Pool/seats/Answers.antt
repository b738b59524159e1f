use Rattle.std.proofs.Common.{ap, sym, subst, length, ◌≡◌, ◌∷◌, [], ◌∙◌, ℕ, arith}
use Rattle.std.proofs.lemmas.List.{length-append}
use Rattle.crossbeam_deque.specs.Handles.{worker_deque}
use Rattle.steal_pool.specs.Pools.{Hands, Each, IsSeatOf, NothingTaken}
use Rattle.steal_pool.proofs.Seats.{made_at, carries, seat_of}
use Rattle.steal_pool.proofs.Lists.{each_snoc, map_length}
use Rattle.steal_pool.proofs.pool.Pool.seats.Goals as goal

pub invariant_of-push : goal.invariant_of-push
invariant_of-push c = carries _ _ _ c.in_ok-tokens.ensures.tokens.1

pub loop-own-preserved : goal.loop-own-preserved
loop-own-preserved c = record {
  which = c.loop-own.invariant.which ∙ sym c.tokens.ensures.deques;
  pieces = c.loop-own.invariant.pieces ∙ sym c.tokens.ensures.same.0;
  long = c.tokens.ensures.same.1 ∙ c.loop-own.invariant.long;
  count = let l = ap length c.in_ok-push.ensures.items in let a = length-append c.loop-own.seats.items (seat_of c.loop-own.own c.in_ok-tokens.field-0.items ∷ []) in let i = c.loop-own.invariant.count in omega arith;
  served = c.in_ok-tokens.ensures.served;
  seats =
      let F = λ (at : ℕ) (s : Hands). IsSeatOf c.args.self.now s × (s.own ≡ at) × NothingTaken s.views in
      let one = made_at c.args.self.now c.loop-own.own _ _ _ c.in_ok-tokens.field-0.items c.loop-own.invariant.which c.loop-own.invariant.pieces c.in_ok-tokens.ensures.tokens (map_length worker_deque c.loop-own.dealer.owners.items) (omega (arith, c.loop-own-test.true, c.len-own-end.ensures, c.args.dealer.owners.ok.0, c.loop-own.invariant.long)) in
      subst (Each F) (sym c.in_ok-push.ensures.items) (each_snoc F c.loop-own.seats.items _ c.loop-own.invariant.seats (one.0, sym c.loop-own.invariant.count, one.1));
}
