use Rattle.std.proofs.Common.{rules}
use Rattle.std.proofs.lemmas.Cmp.{nat_list_cmp_total}
use Rattle.std.proofs.lemmas.List.Sorted.{ranks_by, answers_always}
use Rattle.ld_tree.proofs.Builds.{built-sorted, pair_before}
use Rattle.ld_tree.proofs.building.sorted.Goals as goal

pub returns : goal.returns
returns c =
    built-sorted c.args.pairs.items c.sort_by.new.self.items
    (c.in_ok-sort_by.ensures.stable pair_before (ranks_by nat_list_cmp_total (λ m. m.0)) (answers_always _ _ _ (λ f a r f' k. search rules)))
