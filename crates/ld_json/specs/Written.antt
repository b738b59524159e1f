-- The value that a tree is written as.
use Rattle.std.specs.Prelude.{codes}
use Rattle.std.specs.Fmt.{signed_decimal}
use Rattle.json.specs.Json as json
use Rattle.json.specs.Json.{Json}
use Rattle.ld_model.specs.Tree.{Tree, null, truth, whole, one_one, text, array, object, Trees, no_trees, tree, Members, no_members, member}

-- A value as the grammar of the crate `json` has it (RFC 8259, section 2).
abbrev mutual
  pub json_of : Tree → Json
  json_of null = json.null
  json_of (truth b) = json.boolean b
  json_of (whole n) = json.number (signed_decimal n)
  json_of one_one = json.number (codes "1.1")
  json_of (text s) = json.string s
  json_of (array ts) = json.array (json_items ts)
  json_of (object ms) = json.object (json_members ms)

  pub json_items : Trees → json.Items
  json_items no_trees = json.no_items
  json_items (tree t ts) = json.item (json_of t) (json_items ts)

  pub json_members : Members → json.Members
  json_members no_members = json.no_members
  json_members (member k t ms) = json.member k (json_of t) (json_members ms)
