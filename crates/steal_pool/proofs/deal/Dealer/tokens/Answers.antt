use Rattle.std.proofs.Common.{ap, sym, refl, subst, length, map, ◌∷◌, [], ◌∙◌, arith}
use Rattle.std.proofs.lemmas.List.{length-append}
use Rattle.crossbeam_deque.specs.Handles.{worker_deque}
use Rattle.steal_pool.specs.Pools.{Each, IsFresh, token_deque}
use Rattle.steal_pool.proofs.Dealers.{begins, ends, fresh_as}
use Rattle.steal_pool.proofs.Lists.{each_none, each_snoc, mapped_is, map_length}
use Rattle.steal_pool.proofs.deal.Dealer.tokens.Goals as goal

pub loop-at-init : goal.loop-at-init
loop-at-init c = record {
  pieces = refl;
  long = refl;
  deques = refl;
  count = ap length c.in_ok-made.ensures.items;
  served = begins _ _ _ _ c.requires.served;
  fresh = subst (Each (IsFresh (map worker_deque c.args.self.now.owners.items) c.args.self.now.pieces)) (sym c.in_ok-made.ensures.items) (each_none (IsFresh (map worker_deque c.args.self.now.owners.items) c.args.self.now.pieces));
}

pub token-requires-clause-served : goal.token-requires-clause-served
token-requires-clause-served c = c.loop-at.invariant.served

pub loop-at-preserved : goal.loop-at-preserved
loop-at-preserved c = record {
  pieces = c.token.ensures.same.0 ∙ c.loop-at.invariant.pieces;
  long = c.token.ensures.same.2 ∙ c.loop-at.invariant.long;
  deques = c.token.ensures.same.1 ∙ c.loop-at.invariant.deques;
  count = let l = ap length c.in_ok-push.ensures.items in let a = length-append c.loop-at.made.items (c.token.result ∷ []) in let i = c.loop-at.invariant.count in omega arith;
  served = c.token.ensures.served;
  fresh =
      let one = fresh_as _ _ _ _ _ _ c.token.result c.loop-at.invariant.deques c.loop-at.invariant.pieces (sym c.loop-at.invariant.count) c.token.ensures.token in
      subst (Each (IsFresh (map worker_deque c.args.self.now.owners.items) c.args.self.now.pieces)) (sym c.in_ok-push.ensures.items) (each_snoc (IsFresh (map worker_deque c.args.self.now.owners.items) c.args.self.now.pieces) c.loop-at.made.items c.token.result c.loop-at.invariant.fresh one);
}

pub returns-clause-served : goal.returns-clause-served
returns-clause-served c = ends _ _ _ _ _ (omega (arith, c.loop-at-test.false, c.loop-at.auto.at-end, c.len-at-end.ensures, c.args.self.now.owners.ok.0, c.loop-at.invariant.long)) c.loop-at.invariant.served

pub returns-clause-tokens : goal.returns-clause-tokens
returns-clause-tokens c = (
  mapped_is token_deque c.loop-at.made.items (map worker_deque c.args.self.now.owners.items)
      (omega (arith, c.loop-at.invariant.count, c.loop-at-test.false, c.loop-at.auto.at-end, c.len-at-end.ensures, c.args.self.now.owners.ok.0, map_length worker_deque c.args.self.now.owners.items))
      (λ k q got. (c.loop-at.invariant.fresh k q got).deque),
  c.loop-at.invariant.fresh,
)
