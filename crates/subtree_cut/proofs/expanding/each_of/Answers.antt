use Rattle.std.proofs.Common.{List, map, ap, subst}
use Rattle.std.proofs.lemmas.List.{drop_all}
use Rattle.expand_model.specs.Scope.{Options}
use Rattle.expand_types.specs.View.{word_view}
use Rattle.cut_model.specs.Pieces.{Piece}
use Rattle.subtree_cut.specs.View.{piece_view}
use Rattle.subtree_cut.proofs.Each.{LeadsOn, all_there}
use Rattle.subtree_cut.proofs.expanding.each_of.Goals as goal

pub returns : goal.returns
returns c =
    let o : Options = record { base = word_view c.args.base; contexts = c.args.store.now } in
    let all : List Piece = map (piece_view c.args.contexts.now) c.args.pieces.now in
    all_there o all c.loop-piece.results.items
    (subst (λ left. LeadsOn o all left c.loop-piece.results.items) (ap (map (piece_view c.args.contexts.now)) (drop_all c.loop-piece.piece-index c.args.pieces.now c.loop-piece-test.false)) c.loop-piece.invariant)
