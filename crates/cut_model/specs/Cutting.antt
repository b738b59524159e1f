-- Cutting a document by weight. [Ours.]
use Rattle.std.specs.Prelude.{ℕ, zero, suc, ◌*◌, nat_le, List, length, if◌then◌else◌}
use Rattle.ld_model.specs.Tree.{Tree}
use Rattle.expand_model.specs.Scope.{Options}
use Rattle.cut_model.specs.Pieces.{Piece}
use Rattle.cut_model.specs.Planning.{capped, planned}

-- A plan has no more pieces than this.
abbrev pub most_pieces : ℕ
most_pieces = 4096

-- The limit is doubled until the plan has no more pieces than that, but so often at most.
unfoldable pub cut_within : ℕ → Options → Tree → ℕ → List Piece
cut_within zero o t limit = planned o limit t
cut_within (suc times) o t limit = if nat_le (length (planned o limit t)) most_pieces then planned o limit t else cut_within times o t (capped (limit * 2))

-- The plan of a document that is cut by this weight. From a weight of 1 on, 64 doublings lead to the highest limit, under which nothing is cut.
abbrev pub cut : Options → Tree → ℕ → List Piece
cut o t weight = cut_within 64 o t weight
