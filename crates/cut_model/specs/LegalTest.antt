-- A test of whether a plan is legal, by the places and numbers of its pieces. [Ours.]
use Rattle.std.specs.Prelude.{ℕ, ◌+◌, ◌&&◌, ◌||◌, nat_le, nat_lt, Bool, true, List, [], ◌∷◌, Option, None, Some, if◌then◌else◌}
use Rattle.ld_json.specs.declared.location.Step.{Step}
use Rattle.ld_json.specs.declared.location.Step.TheVariants.{Key, Item}
use Rattle.cut_model.specs.Pieces.{Piece, count, same_step}

-- What is left of the second place where it begins with the first one; none where it doesn't.
abbrev pub way_from : List Step → List Step → Option (List Step)
way_from [] q = Some q
way_from (x ∷ p) [] = None
way_from (x ∷ p) (y ∷ q) = if same_step x y then way_from p q else None

-- The first piece ends before the second one begins, in one array.
abbrev pub ends_before : Piece → Piece → Bool
ends_before x y = nat_le (x.from + count x.items) y.from

-- The item with this number is none of the piece's.
abbrev pub lacks_item : Piece → ℕ → Bool
lacks_item x n = nat_lt n x.from || nat_le (x.from + count x.items) n

-- No item of the second piece is an item of the first one, or lies inside one, by the way from the array of the first to that of the second: in
-- one array the pieces don't overlap, and an array inside an item lies in none of the first piece's.
abbrev pub is_outside_by : Piece → Piece → Option (List Step) → Bool
is_outside_by x y None = true
is_outside_by x y (Some []) = ends_before x y || ends_before y x
is_outside_by x y (Some (Item n ∷ rest)) = lacks_item x n
is_outside_by x y (Some (Key k ∷ rest)) = true

abbrev pub is_outside : Piece → Piece → Bool
is_outside x y = is_outside_by x y (way_from x.at.place y.at.place)

-- A piece is apart from each of these.
abbrev pub is_apart_from_all : Piece → List Piece → Bool
is_apart_from_all x [] = true
is_apart_from_all x (y ∷ ys) = is_outside x y && (is_outside y x && is_apart_from_all x ys)

-- Each piece has an item, and any two are apart.
abbrev pub is_legal : List Piece → Bool
is_legal [] = true
is_legal (x ∷ xs) = nat_lt 0 (count x.items) && (is_apart_from_all x xs && is_legal xs)
