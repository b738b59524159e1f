-- What stands at a place of a document, and pieces whose items stand there. [Ours.]
use Rattle.std.specs.Prelude.{◌≡◌, List, [], ◌∷◌, Option, None, Some, slice_get}
use Rattle.std.specs.Option.{option_and_then}
use Rattle.ld_json.specs.declared.location.Step.{Step}
use Rattle.ld_json.specs.declared.location.Step.TheVariants.{Key, Item}
use Rattle.ld_model.specs.Tree.{Tree, Trees, array, object, tree_list, member_list, member_at}
use Rattle.range_laws.specs.Right.{first_trees, rest_trees}
use Rattle.cut_model.specs.Pieces.{Piece, count}

-- The value to which a step leads: that of a key of a map, or an item of an array.
abbrev pub step_to : Step → Tree → Option Tree
step_to (Key k) (object ms) = member_at k (member_list ms)
step_to (Item n) (array ts) = slice_get (tree_list ts) n
step_to _ _ = None

-- The value at a place.
abbrev pub value_at_place : List Step → Tree → Option Tree
value_at_place [] t = Some t
value_at_place (x ∷ p) t = option_and_then (λ u. value_at_place p u) (step_to x t)

-- An array stands at the piece's place, and the piece's items stand in it, from the piece's number on.
pub record StandsIn (t : Tree) (x : Piece) : Type 0 where
  pub whole : Trees
  pub place : value_at_place x.at.place t ≡ Some (array whole)
  pub items : x.items ≡ first_trees (count x.items) (rest_trees x.from whole)
