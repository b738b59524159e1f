-- What a plan's pieces come to, grafted into the expanded document. [Ours.]
use Rattle.std.specs.Prelude.{◌≡◌, List, [], ◌∷◌, None, Some, Result, Ok, Err, if◌then◌else◌}
use Rattle.ld_model.specs.Tree.{Tree}
use Rattle.expand_model.specs.Scope.{Options, Fault}
use Rattle.expand_model.specs.Expand.{items}
use Rattle.cut_model.specs.Pieces.{Piece, count_behind, begins_at}
use Rattle.cut_model.specs.Answers.{RangeAnswers, document_with}

-- What expansion has for a piece's items, or their first error.
abbrev pub piece_outcome : Options → Piece → Result (List Tree) Fault
piece_outcome o x = items o x.items x.from x.at []

-- The results are those of the pieces from the first one on: of all of them, or of those up to one that comes to an error.
abbrev pub AreResults : Options → List Piece → List (Result (List Tree) Fault) → Type 0
AreResults o [] [] = Unit {0}
AreResults o (x ∷ xs) (Ok ts ∷ results) = (piece_outcome o x ≡ Ok ts) × AreResults o xs results
AreResults o (x ∷ xs) (Err f ∷ results) = (piece_outcome o x ≡ Err f) × (results ≡ [])
AreResults o _ _ = ⊥

-- What is known of ranges by the results of a plan: that of the first piece which begins there.
abbrev pub known_by : List Piece → List (Result (List Tree) Fault) → RangeAnswers
known_by [] results p n = None
known_by (x ∷ xs) [] p n = None
known_by (x ∷ xs) (d ∷ results) p n = if begins_at p n x then Some (record { behind = count_behind x.items; result = d }) else known_by xs results p n

-- The document that results are grafted into.
abbrev pub grafted : Options → Tree → List Piece → List (Result (List Tree) Fault) → Result (List Tree) Fault
grafted o t plan results = document_with o (known_by plan results) t
