use Rattle.std.proofs.Common.{ℕ, ◌<◌, sym, subst, ◌∙◌}
use Rattle.steal_pool.proofs.Gathers.{head_inside, turn}
use Rattle.steal_pool.proofs.gather.fill.Goals as goal

pub index_mut-requires : goal.index_mut-requires
index_mut-requires g c = subst (λ (n : ℕ). c.in-Some.piece < n) (sym c.loop-piece.slots.ok.0) (head_inside _ _ _ _ _ c.in-Some.ensures.steps.0 c.loop-piece.invariant.inside)

pub loop-piece-preserved-in-Some : goal.loop-piece-preserved-in-Some
loop-piece-preserved-in-Some g c = let t = turn _ _ _ _ _ c.in-Some.ensures.steps.0 c.loop-piece.invariant.inside in record { left = t.0 ∙ c.loop-piece.invariant.left; inside = t.1 }

pub loop-piece-preserved : goal.loop-piece-preserved
loop-piece-preserved g c = let t = turn _ _ _ _ _ c.in-Some.ensures.steps.0 c.loop-piece.invariant.inside in record { left = t.0 ∙ c.loop-piece.invariant.left; inside = t.1 }
