-- Legal plans: their ranges are non-empty and disjoint, and none lies inside another. [Ours.]
use Rattle.std.specs.Prelude.{ℕ, ◌+◌, ◌<◌, ◌≤◌, ◌≡◌, List, [], ◌∷◌, ◌++◌}
use Rattle.std.specs.List.{AllByRecursion}
use Rattle.ld_json.specs.declared.location.Step.{Step}
use Rattle.expand_model.specs.Scope.{in_item}
use Rattle.cut_model.specs.Pieces.{Piece, count}

-- The piece has an item.
abbrev pub IsNonEmpty : Piece → Type 0
IsNonEmpty x = 0 < count x.items

-- The item with this number is one of the piece's.
abbrev pub HasItem : Piece → ℕ → Type 0
HasItem x n = (x.from ≤ n) × (n < x.from + count x.items)

-- What stands at this place is an item of the piece, or lies inside one.
abbrev pub IsWithin : Piece → List Step → Type 0
IsWithin x q = (n : ℕ) × HasItem x n × (rest : List Step) × (q ≡ in_item n x.at.place ++ rest)

-- No item of the second piece is an item of the first one, or lies inside one.
abbrev pub IsOutside : Piece → Piece → Type 0
IsOutside x y = (n : ℕ) → HasItem y n → IsWithin x (in_item n y.at.place) → ⊥

-- Two pieces share no item, and neither lies inside the other.
abbrev pub AreApart : Piece → Piece → Type 0
AreApart x y = IsOutside x y × IsOutside y x

-- Each piece of the plan has an item, and any two are apart.
abbrev pub IsLegal : List Piece → Type 0
IsLegal [] = Unit {0}
IsLegal (x ∷ xs) = IsNonEmpty x × AllByRecursion (λ y. AreApart x y) xs × IsLegal xs
