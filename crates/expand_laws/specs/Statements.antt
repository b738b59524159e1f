-- Words in which the laws of what expansion gives are stated.
use Rattle.std.specs.Prelude.{◌≡◌, ℕ, ◌+◌, Bool, true, false, List, ◌∷◌, Result, Ok, Err, codes}
use Rattle.ld_json.specs.declared.location.Step.{Step}
use Rattle.ld_json.specs.declared.location.Step.TheVariants.{Item}
use Rattle.ld_model.specs.Tree.{Tree, Pairs, AreAscending}
use Rattle.expand_model.specs.Scope.{Fault, is_map, has, members_in}

-- A node object: a map that has none of `@value`, `@list` and `@set` (JSON-LD 1.1, section 9.2).
pub record IsNodeObject (t : Tree) : Type 0 where
  pub map : is_map t ≡ true
  pub no_value : has (codes "@value") (members_in t) ≡ false
  pub no_list : has (codes "@list") (members_in t) ≡ false
  pub no_set : has (codes "@set") (members_in t) ≡ false

-- The keys of a map ascend by their bytes, so none stands twice.
abbrev pub HasKeysInOrder : Tree → Type 0
HasKeysInOrder t = AreAscending (members_in t)

-- There are at least two entries.
abbrev pub are_several : Pairs → Bool
are_several (a ∷ b ∷ ms) = true
are_several _ = false

-- A node object that has an id has something beside it.
abbrev pub has_more_than_id : Tree → Bool
has_more_than_id t = are_several (members_in t)

-- A place in an array, so many items later.
abbrev pub later : ℕ → List Step → List Step
later n (Item m ∷ p) = Item (n + m) ∷ p
later n p = p

-- What comes out, with the place of its error so many items later.
abbrev pub items_later : {X : Type 0} → ℕ → Result X Fault → Result X Fault
items_later n (Ok x) = Ok x
items_later n (Err f) = Err (record { code = f.code; place = later n f.place })
