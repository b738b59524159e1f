-- What the laws of the canonical text say.
use Rattle.std.specs.Prelude.{◌≡◌, ◌≤◌, ◌^◌, ⊤, Some, unsigned_abs}
use Rattle.std.specs.Option.{option_map}
use Rattle.std.specs.List.{AllByRecursion}
use Rattle.std.specs.List.Sorted.{IsPermutation, IsStrictlySortedBy}
use Rattle.std.specs.Map.{keys_of}
use Rattle.std.specs.Str.{IsUtf8}
use Rattle.json.specs.Tree.{depth}
use Rattle.serde_json.specs.Read.{read}
use Rattle.ld_json.specs.Read.{tree_of}
use Rattle.ld_model.specs.Tree.{Tree, null, truth, whole, one_one, text, array, object, Trees, no_trees, tree, Members, no_members, member, Pairs, member_list, AreAscending}
use Rattle.json_canon.specs.Utf16.{utf16_order}
use Rattle.ld_json.specs.Written.{json_of}
use Rattle.json_canon.specs.Canonical.{canonical_text, in_order}

-- A value as reading gives one: in each object each key once, in the order of the keys' bytes, and no whole number
-- above 2^53 in magnitude.
abbrev mutual
  pub IsRead : Tree → Type 0
  IsRead null = ⊤
  IsRead (truth b) = ⊤
  IsRead (whole n) = unsigned_abs n ≤ 2 ^ 53
  IsRead one_one = ⊤
  IsRead (text s) = ⊤
  IsRead (array ts) = AreRead ts
  IsRead (object ms) = AreAscending (member_list ms) × ValuesAreRead ms

  pub AreRead : Trees → Type 0
  AreRead no_trees = ⊤
  AreRead (tree t ts) = IsRead t × AreRead ts

  pub ValuesAreRead : Members → Type 0
  ValuesAreRead no_members = ⊤
  ValuesAreRead (member k t ms) = IsRead t × ValuesAreRead ms

-- The canonical text of such a value, nested at most 127 deep, reads as that value.
abbrev pub ReadsBack : Type 0
ReadsBack = (t : Tree) → IsRead t → depth (json_of t) ≤ 127 → option_map tree_of (read (canonical_text t)) ≡ Some t

-- Sorting the members of an object only moves them.
abbrev pub MembersAreMoved : Type 0
MembersAreMoved = (ms : Pairs) → IsPermutation ms (in_order ms)

-- The names of sorted members strictly ascend by their UTF-16 code units.
abbrev pub NamesAscend : Type 0
NamesAscend = (ms : Pairs) → AreAscending ms → AllByRecursion IsUtf8 (keys_of ms) → IsStrictlySortedBy utf16_order (keys_of (in_order ms))
