use Rattle.std.proofs.Common.{◌≡◌, List, map, drop}
use Rattle.ctx_types.specs.declared.context.ActiveContext.{ActiveContext}
use Rattle.cut_model.specs.LegalTest as test
use Rattle.subtree_cut.specs.View.{piece_view}
use Rattle.subtree_cut.proofs.legal.are_apart.Given as goal

abbrev pub invariant-loop-number : goal.invariant-loop-number
invariant-loop-number l = (contexts : List ActiveContext) → test.is_legal (map (piece_view contexts) (drop l.number l.pieces)) ≡ test.is_legal (map (piece_view contexts) l.pieces)
