use Rattle.std.proofs.Common.{◌≡◌, ℕ, refl, ap, sym, subst, length, ◌∷◌, [], arith}
use Rattle.std.proofs.lemmas.List.{length-append}
use Rattle.steal_pool.specs.Pools.{Each, Dealing}
use Rattle.steal_pool.proofs.Dealers.{opened}
use Rattle.steal_pool.proofs.Lists.{each_snoc}
use Rattle.steal_pool.proofs.deal.Dealer.open.Goals as goal

pub loop-preserved : goal.loop-preserved
loop-preserved c = record {
  count = let l = ap length c.in_ok-push.ensures.items in let a = length-append c.loop.owners.items (c.in_ok-fifo_as.field-0 ∷ []) in let i = c.loop.invariant.count in omega arith;
  empty = subst (Each (Dealing c.args.deques 0 0)) (sym c.in_ok-push.ensures.items) (each_snoc (Dealing c.args.deques 0 0) c.loop.owners.items c.in_ok-fifo_as.field-0 c.loop.invariant.empty (opened c.args.deques _ c.in_ok-fifo_as.field-0 c.requires.1 c.in_ok-fifo_as.ensures.1 c.in_ok-fifo_as.ensures.4));
}

pub returns : goal.returns
returns c =
    let count : length c.loop.owners.items ≡ c.args.deques = omega (arith, c.loop.invariant.count, c.loop-test.false, c.loop.auto.counter-end) in
    (refl, count, subst (λ (d : ℕ). Each (Dealing d 0 0) c.loop.owners.items) (sym count) c.loop.invariant.empty)
