-- The compact text of a JSON value: no white space, members in the order of their keys (RFC 8259).
use Rattle.std.specs.Prelude.{ℕ, List, [], ◌∷◌, ◌++◌, Bool, true, false, if◌then◌else◌, codes}
use Rattle.std.specs.Fmt.{signed_decimal}
use Rattle.json.specs.Print.{quoted}
use Rattle.ld_model.specs.Tree.{Tree, null, truth, whole, one_one, text, array, object, Trees, no_trees, tree, Members, no_members, member}

-- A comma, where something stands before.
abbrev pub comma_if : Bool → List ℕ
comma_if later = if later then codes "," else []

-- The text of a value, of the values of an array, and of the members of an object. `later` says that one stands before.
abbrev mutual
  pub compact : Tree → List ℕ
  compact null = codes "null"
  compact (truth b) = if b then codes "true" else codes "false"
  compact (whole n) = signed_decimal n
  compact one_one = codes "1.1"
  compact (text s) = quoted s
  compact (array ts) = 91 ∷ (trees_text false ts ++ 93 ∷ [])
  compact (object ms) = 123 ∷ (members_text false ms ++ 125 ∷ [])

  pub trees_text : Bool → Trees → List ℕ
  trees_text later no_trees = []
  trees_text later (tree t ts) = comma_if later ++ (compact t ++ trees_text true ts)

  pub members_text : Bool → Members → List ℕ
  members_text later no_members = []
  members_text later (member k t ms) = comma_if later ++ (quoted k ++ 58 ∷ (compact t ++ members_text true ms))
