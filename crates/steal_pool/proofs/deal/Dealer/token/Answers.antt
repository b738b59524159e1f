use Rattle.std.proofs.Common.{refl, arith, ◌∙◌, ◌+◌, nat_eq}
use Rattle.std.proofs.lemmas.List.{length-set}
use Rattle.std.proofs.lemmas.Option.{slice_get_read}
use Rattle.crossbeam_deque.specs.Handles.{worker_deque}
use Rattle.steal_pool.proofs.Dealers.{unserved, serves, still_serving, fresh, is_last_true, is_last_false}
use Rattle.steal_pool.proofs.Lists.{map_same}
use Rattle.steal_pool.proofs.deal.Dealer.token.Goals as goal

pub token-requires-clause-some : goal.token-requires-clause-some
token-requires-clause-some c = let e = (unserved _ _ _ _ _ _ c.requires.served c.requires.range.1 c.index_mut.ensures.value).enough in let r = c.requires.range.0 in omega arith

pub token-requires-clause-more : goal.token-requires-clause-more
token-requires-clause-more c is = let e = (unserved _ _ _ _ _ _ c.requires.served c.requires.range.1 c.index_mut.ensures.value).enough in let r = is_last_false _ _ _ (c.len.ensures ∙ c.args.self.now.owners.ok.0) c.requires.range.0 is in omega arith

pub returns-clause-same : goal.returns-clause-same
returns-clause-same c = (
  refl,
  map_same worker_deque _ _ _ _ (slice_get_read _ _ _ _ refl c.requires.range.1 c.index_mut.ensures.value) c.token.ensures.same.0.0,
  length-set _ _ _,
)

pub returns-clause-served : goal.returns-clause-served
returns-clause-served c = still_serving _ _ _ _ _ (length-set _ _ _) (serves _ _ _ _ _ _ _ c.token.result (nat_eq (c.args.own + 1) c.len.result) (is_last_true _ _ _ (c.len.ensures ∙ c.args.self.now.owners.ok.0)) (is_last_false _ _ _ (c.len.ensures ∙ c.args.self.now.owners.ok.0) c.requires.range.0) c.requires.served c.requires.range.1 c.index_mut.ensures.value c.token.ensures.same.0 c.token.ensures.views)

pub returns-clause-token : goal.returns-clause-token
returns-clause-token c = fresh _ _ _ _ _ c.token.new.owner _ (nat_eq (c.args.own + 1) c.len.result) (is_last_true _ _ _ (c.len.ensures ∙ c.args.self.now.owners.ok.0)) (is_last_false _ _ _ (c.len.ensures ∙ c.args.self.now.owners.ok.0) c.requires.range.0) c.requires.served c.requires.range.1 c.index_mut.ensures.value c.token.ensures.same.1 c.token.ensures.views
