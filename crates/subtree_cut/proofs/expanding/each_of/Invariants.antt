use Rattle.std.proofs.Common.{map, drop}
use Rattle.expand_types.specs.View.{word_view}
use Rattle.subtree_cut.specs.View.{piece_view}
use Rattle.subtree_cut.proofs.Each.{LeadsOn}
use Rattle.subtree_cut.proofs.expanding.each_of.Given as goal

abbrev pub invariant-loop-piece : goal.invariant-loop-piece
invariant-loop-piece l = LeadsOn (record { base = word_view l.base; contexts = l.store }) (map (piece_view l.contexts) l.pieces) (map (piece_view l.contexts) (drop l.piece-index l.pieces)) l.results.items
