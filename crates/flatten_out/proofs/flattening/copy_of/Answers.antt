use Rattle.std.proofs.Common.{◌≡◌, ◌++◌, sym, ap₂, subst, ◌∙◌}
use Rattle.ld_model.specs.Tree.{AreAscending, put}
use Rattle.ld_tree.specs.View.{view}
use Rattle.node_logs.proofs.Once.{put_behind}
use Rattle.flatten_out.proofs.flattening.copy_of.Goals as goal

pub loop-key-preserved : goal.loop-key-preserved
unfolding put
loop-key-preserved c =
    let left : c.loop-key.copy ++ c.loop-key.key-iterator ≡ c.into_iter-key-iterator.result = c.loop-key.invariant in
    put_behind c.loop-key.copy c.set.new.self (c.in-Some.key.now, view c.in-Some.value.now) c.next.new.self c.into_iter-key-iterator.result
    (subst AreAscending (sym c.into_iter-key-iterator.ensures.into_iter_gives.0) c.into_iter-key-iterator.ensures.into_iter_gives.1) (rw c.in-Some.ensures.steps at left)
    (c.in_ok-set.ensures.ok ∙ ap₂ (λ k t. put k t c.loop-key.copy) c.in_ok-copy-2.ensures c.in_ok-copy-3.ensures)
