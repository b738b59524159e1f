use Rattle.std.proofs.Common.{◌≡◌, List, map, drop}
use Rattle.ctx_types.specs.declared.context.ActiveContext.{ActiveContext}
use Rattle.cut_model.specs.LegalTest as test
use Rattle.subtree_cut.specs.View.{piece_view}
use Rattle.subtree_cut.proofs.legal.is_apart_from.Given as goal

abbrev pub invariant-loop-other : goal.invariant-loop-other
invariant-loop-other l = (contexts : List ActiveContext) → test.is_apart_from_all (piece_view contexts l.piece) (map (piece_view contexts) (drop l.other-index l.others)) ≡ test.is_apart_from_all (piece_view contexts l.piece) (map (piece_view contexts) l.others)
