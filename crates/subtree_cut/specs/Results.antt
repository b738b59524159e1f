-- What the pieces of a plan came to, as callers have it. Want of memory says nothing of its piece.
use Rattle.std.specs.Prelude.{◌≡◌, List, [], ◌∷◌, map, Result, Ok, Err}
use Rattle.ld_model.specs.Tree.{Tree}
use Rattle.expand_model.specs.Scope.{Options, Fault}
use Rattle.cut_model.specs.Pieces.{Piece}
use Rattle.cut_model.specs.Grafting.{piece_outcome}
use Rattle.tree_expand.specs.Outcomes.{Refuses}
use Rattle.tree_expand.specs.View.{given_view, known_result}
use Rattle.tree_expand.specs.declared.ranges.Refusal.{Refusal}
use Rattle.tree_expand.specs.declared.stop.ExpandStop.{ExpandStop}

-- The results are those of the pieces from the first one on: of all of them, or of those up to one that has none.
abbrev pub AreResults : Options → List Piece → List (Result (List Tree) ExpandStop) → Type 0
AreResults o [] [] = Unit {0}
AreResults o (x ∷ xs) (Ok ts ∷ results) = (piece_outcome o x ≡ Ok ts) × AreResults o xs results
AreResults o (x ∷ xs) (Err e ∷ results) = Refuses e (piece_outcome o x) × (results ≡ [])
AreResults o _ _ = ⊥

-- Results that aren't want of memory.
abbrev pub known_results : List (Result (List Tree) Refusal) → List (Result (List Tree) ExpandStop)
known_results ds = map known_result ds

abbrev pub outcomes_of : List (Result (List Tree) Refusal) → List (Result (List Tree) Fault)
outcomes_of ds = map given_view ds
