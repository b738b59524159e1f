-- Pieces of a document: ranges of the items of its arrays, each of which can be expanded by itself. [Ours: that a document is cut.]
use Rattle.std.specs.Prelude.{ℕ, suc, ◌&&◌, nat_eq, Bool, true, false, List, [], ◌∷◌, Option, None, Some, if◌then◌else◌}
use Rattle.std.specs.Str.{bytes_eq}
use Rattle.ld_json.specs.declared.location.Step.{Step}
use Rattle.ld_json.specs.declared.location.Step.TheVariants.{Key, Item}
use Rattle.ld_model.specs.Tree.{Trees, no_trees, tree}
use Rattle.expand_model.specs.Rules.{At}

-- A range of an array's items: the place of the array, with the active context, the active property and the flag from map that it is
-- expanded with (JSON-LD 1.1 API, section 5.1.1); the number of the first item; and the items.
pub record Piece : Type 0 where
  pub at : At
  pub from : ℕ
  pub items : Trees

-- How many items there are.
abbrev pub count : Trees → ℕ
count no_trees = 0
count (tree t ts) = suc (count ts)

-- How many items there are behind the first one.
abbrev pub count_behind : Trees → ℕ
count_behind no_trees = 0
count_behind (tree t ts) = count ts

-- Two steps, and two places, are equal.
abbrev pub same_step : Step → Step → Bool
same_step (Key k) (Key l) = bytes_eq k l
same_step (Item n) (Item m) = nat_eq n m
same_step _ _ = false

abbrev pub same_place : List Step → List Step → Bool
same_place [] [] = true
same_place (x ∷ p) (y ∷ q) = same_step x y && same_place p q
same_place _ _ = false

-- Where ranges begin: by the place of an array and the number of an item, how many items behind that one the range has which begins
-- with it; none where no range does.
abbrev pub Ranges : Type 0
Ranges = List Step → ℕ → Option ℕ

-- A piece begins with this item of the array at this place.
abbrev pub begins_at : List Step → ℕ → Piece → Bool
begins_at p n x = same_place p x.at.place && nat_eq n x.from

-- The ranges of a plan, which is a list of pieces.
abbrev pub ranges_of : List Piece → Ranges
ranges_of [] p n = None
ranges_of (x ∷ xs) p n = if begins_at p n x then Some (count_behind x.items) else ranges_of xs p n
