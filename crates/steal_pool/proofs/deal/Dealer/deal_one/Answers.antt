use Rattle.steal_pool.specs.Pools.{Dealing}
use Rattle.steal_pool.proofs.Dealers.{within, dealt_at, still_dealing}
use Rattle.steal_pool.proofs.Homes.{home_fresh}
use Rattle.steal_pool.proofs.Lists.{each_at}
use Rattle.steal_pool.proofs.Results.{on_ok}
use Rattle.std.proofs.Common.{refl, ◌∙◌}
use Rattle.std.proofs.lemmas.List.{length-set}
use Rattle.steal_pool.proofs.deal.Dealer.deal_one.Goals as goal

pub put-requires-clause-parts : goal.put-requires-clause-parts
put-requires-clause-parts c = (each_at (Dealing _ _ 0) _ _ _ c.requires.dealt (within _ _ _ (c.len.ensures ∙ c.args.self.now.owners.ok.0) c.requires.some) c.index_mut.ensures.value).whole refl

pub put-requires-clause-fresh : goal.put-requires-clause-fresh
put-requires-clause-fresh c = home_fresh _ _ _ _ (each_at (Dealing _ _ 0) _ _ _ c.requires.dealt (within _ _ _ (c.len.ensures ∙ c.args.self.now.owners.ok.0) c.requires.some) c.index_mut.ensures.value).home

pub returns-clause-dealt : goal.returns-clause-dealt
returns-clause-dealt c = on_ok c.put.result _ _ (λ put. still_dealing _ _ _ _ (length-set _ _ _) (dealt_at _ _ _ _ _ _ (c.len.ensures ∙ c.args.self.now.owners.ok.0) c.requires.some c.requires.dealt (within _ _ _ (c.len.ensures ∙ c.args.self.now.owners.ok.0) c.requires.some) c.index_mut.ensures.value c.put.ensures.same put)) c.put.ensures.put
