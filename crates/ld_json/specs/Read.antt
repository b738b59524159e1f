-- What a text reads as: the tree that `serde_json` reads (RFC 8259), where its numbers are accepted and the number 1.1 stands
-- only at `@version`.
use Rattle.std.specs.Prelude.{ℕ, ◌+◌, ◌^◌, ◌≡◌, List, Bool, true, false, nat_le, if◌then◌else◌, Option, Some, None, pos, negsuc, ⊤, String, string_bytes}
use Rattle.std.specs.declared.alloc.Global.{Global}
use Rattle.std.specs.Str.{is_utf8}
use Rattle.serde_json.specs.Data as json
use Rattle.serde_json.specs.Read.{read}
use Rattle.serde_json.specs.View.{view as value_view}
use Rattle.serde_json.specs.declared.value.Value.{Value}
use Rattle.ld_model.specs.Tree.{Tree, null, truth, whole, one_one, text, array, object, Trees, no_trees, tree, Members, no_members, member}
use Rattle.ld_json.specs.Numbers.{refused_number}
use Rattle.ld_json.specs.Marks.{misplaced}
use Rattle.ld_json.specs.declared.location.Step.{Step}
use Rattle.ld_json.specs.declared.reading.ReadRefusal.{ReadRefusal}
use Rattle.ld_json.specs.declared.reading.ReadRefusal.TheVariants.{Syntax, Number, VersionNumber, OutOfMemory}

-- The tree of a number: itself where it is whole and at most 2^53 in magnitude, and else the mark 1.1.
abbrev pub number_tree : json.Num → Tree
number_tree (json.unsigned n) = if nat_le n (2 ^ 53) then whole (pos n) else one_one
number_tree (json.negative (pos n)) = if nat_le n (2 ^ 53) then whole (pos n) else one_one
number_tree (json.negative (negsuc n)) = if nat_le (n + 1) (2 ^ 53) then whole (negsuc n) else one_one
number_tree (json.float x) = one_one

-- The trees of a value that `serde_json` reads, of the values of an array, and of the members of an object.
abbrev mutual
  pub tree_of : json.Data → Tree
  tree_of json.null = null
  tree_of (json.boolean b) = truth b
  tree_of (json.number n) = number_tree n
  tree_of (json.string s) = text s
  tree_of (json.array ds) = array (trees_in ds)
  tree_of (json.object ms) = object (members_in ms)

  pub trees_in : json.Items → Trees
  trees_in json.no_items = no_trees
  trees_in (json.item d ds) = tree (tree_of d) (trees_in ds)

  pub members_in : json.Members → Members
  members_in json.no_members = no_members
  members_in (json.member k d ms) = member k (tree_of d) (members_in ms)

-- A tree; or no JSON text; or the byte of a number that isn't accepted; or the place of a mark that stands elsewhere than at
-- `@version`.
pub data Reading : Type 0 where
  reads : Tree → Reading
  no_json : Reading
  number_at : ℕ → Reading
  version_at : List Step → Reading

-- What a tree reads as, given the first place of a mark that stands elsewhere.
abbrev pub marked : Option (List Step) → Tree → Reading
marked None t = reads t
marked (Some place) t = version_at place

-- What a tree reads as, given the byte of the first number that isn't accepted.
abbrev pub gated : Option ℕ → Tree → Reading
gated None t = marked (misplaced t) t
gated (Some at) t = number_at at

-- What a text reads as, given that byte, and what `serde_json` reads of it.
abbrev pub reading_of : Option ℕ → Option json.Data → Reading
reading_of refused None = no_json
reading_of refused (Some d) = gated refused (tree_of d)

-- What bytes read as. JSON text is in UTF-8 (RFC 8259, section 8.1). Syntax is tried first, then the numbers, then the places
-- of the mark.
unfoldable pub reading : List ℕ → Reading
reading bytes = if is_utf8 bytes then reading_of (refused_number bytes) (read bytes) else no_json

-- When each refusal may come: `OutOfMemory` at any time.
abbrev pub Refuses : ReadRefusal → Reading → Type 0
Refuses Syntax r = r ≡ no_json
Refuses (Number at) r = r ≡ number_at at
Refuses (VersionNumber place) r = r ≡ version_at place
Refuses OutOfMemory r = ⊤

-- What a refusal says of the numbers of the text: `Number`, that one isn't accepted, and `VersionNumber`, that each is.
abbrev pub SaysOfNumbers : ReadRefusal → Bool → Type 0
SaysOfNumbers (Number at) accepted = accepted ≡ false
SaysOfNumbers (VersionNumber place) accepted = accepted ≡ true
SaysOfNumbers _ accepted = ⊤

-- The tree of a value of `serde_json`.
abbrev pub value_tree : Value → Tree
value_tree v = tree_of (value_view v)

-- The key and the tree of an entry of `serde_json`'s map.
abbrev pub value_member : String Global × Value → List ℕ × Tree
value_member e = (string_bytes e.0, value_tree e.1)
