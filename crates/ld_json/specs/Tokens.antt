-- The trees of what the grammar of JSON reads (RFC 8259), with no value of `serde_json` between. Contracts of private
-- functions alone speak of them.
use Rattle.std.specs.Prelude.{◌≡◌, Bool, ℕ, List, [], ◌∷◌, Option, Some, None, option_map, option_and_then, Result, Err}
use Rattle.std.specs.BTreeMap.{insert_entry}
use Rattle.std.specs.List.{list_all}
use Rattle.json.specs.Token.{Token}
use Rattle.json.specs.Json as json
use Rattle.serde_json.specs.Read.{number_of, read}
use Rattle.ld_model.specs.Tree.{Tree, null, truth, text, array, object, Pairs, trees_of, members_of, byte_order}
use Rattle.ld_json.specs.Numbers.{is_accepted, numbers_in}
use Rattle.ld_json.specs.Marks.{misplaced}
use Rattle.ld_json.specs.Read.{number_tree, tree_of}
use Rattle.ld_json.specs.declared.by_tokens.Stop.{Stop}
use Rattle.ld_json.specs.declared.by_tokens.Stop.TheVariants.{Syntax}

-- The tree that a number's text stands for; None where it is too large for a float.
abbrev pub number_read : List ℕ → Option Tree
number_read s = option_map number_tree (number_of s)

-- The trees of a value, of the values of an array, and of the members of an object. Members go in one after another, so the
-- last value of a key stays.
abbrev mutual
  pub tree_read : json.Json → Option Tree
  tree_read json.null = Some null
  tree_read (json.boolean b) = Some (truth b)
  tree_read (json.number s) = number_read s
  tree_read (json.string s) = Some (text s)
  tree_read (json.array js) = option_map (λ ts. array (trees_of ts)) (items_read js)
  tree_read (json.object ms) = option_map (λ ms. object (members_of ms)) (members_read ms [])

  pub items_read : json.Items → Option (List Tree)
  items_read json.no_items = Some []
  items_read (json.item j js) = option_and_then (λ t. option_map (λ ts. t ∷ ts) (items_read js)) (tree_read j)

  pub members_read : json.Members → Pairs → Option Pairs
  members_read json.no_members found = Some found
  members_read (json.member k j ms) found = option_and_then (λ t. members_read ms (insert_entry byte_order found k t)) (tree_read j)

-- The tree that a text is.
abbrev pub text_read : List ℕ → Option Tree
text_read s = option_map tree_of (read s)

-- The text was refused, and not memory.
abbrev pub IsRefused : {A : Type 0} → Result A Stop → Type 0
IsRefused r = r ≡ Err Syntax

-- Each number among some tokens is accepted.
abbrev pub all_in : List Token → Bool
all_in ts = list_all is_accepted (numbers_in ts)

-- The number 1.1 stands nowhere in the value but at `@version`.
abbrev pub HasNoMark : Tree → Type 0
HasNoMark t = misplaced t ≡ None
