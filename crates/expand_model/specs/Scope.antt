-- What a value, and the entries of a map, are expanded with (JSON-LD 1.1 API, section 5.1.1), and small tests of values.
use Rattle.std.specs.Prelude.{◌&&◌, ◌||◌, not, Bool, true, false, List, [], ◌∷◌, ◌++◌, ℕ, Option, None, Some, Result, Ok, Err, codes, is_some, if◌then◌else◌}
use Rattle.std.specs.List.{list_any, list_all}
use Rattle.std.specs.Option.{option_and_then, option_map_or}
use Rattle.std.specs.Str.{bytes_eq}
use Rattle.ld_model.specs.Tree.{Tree, null, truth, whole, one_one, text, array, object, Trees, no_trees, tree, Pairs, trees_of, tree_list, members_of, member_list, member_at, put}
use Rattle.ld_json.specs.declared.location.Step.{Step}
use Rattle.ld_json.specs.declared.location.Step.TheVariants.{Key, Item}
use Rattle.case_tables.specs.declared.code.Code.{Code}
use Rattle.case_tables.specs.declared.shape.Shape.{Shape}
use Rattle.case_tables.specs.Shape.{no_words}
use Rattle.ctx_types.specs.Context.{Text, Definition, Settings, Context, definition_at}
use Rattle.ctx_types.specs.Expansion.{expand_iri}
use Rattle.ctx_store.specs.Stored.{Contexts}
use Rattle.ctx_model.specs.Words.{same_text}

-- What stays the same in the whole document: its base URL, and the contexts that can be loaded.
pub record Options : Type 0 where
  pub base : Option Text
  pub contexts : Contexts

-- What a value is expanded with: the active context, the active property, and the flag from map.
pub record Scope : Type 0 where
  pub context : Context
  pub property : Option Text
  pub from_map : Bool

-- What the entries of a map are expanded with: the active context, the type-scoped context, whether the input type is `@json`,
-- and the active property of the map.
pub record MapScope : Type 0 where
  pub context : Context
  pub types : Context
  pub json : Bool
  pub property : Option Text

-- An error, and where it is.
pub record Fault : Type 0 where
  pub code : Code
  pub place : List Step

-- What is said to be in error is at this place.
abbrev pub located : {A : Type 0} → List Step → Result A Code → Result A Fault
located p (Ok a) = Ok a
located p (Err c) = Err (record { code = c; place = p })

-- The value of a key, and an item, of what is at a place.
abbrev pub in_key : Text → List Step → List Step
in_key k p = p ++ Key k ∷ []

abbrev pub in_item : ℕ → List Step → List Step
in_item n p = p ++ Item n ∷ []

-- The active property is null or `@graph`: what stands there is at the top of a graph.
abbrev pub is_top : Option Text → Bool
is_top None = true
is_top (Some p) = bytes_eq p (codes "@graph")

-- The definition of the active property in a context; at the top of a graph there is none.
abbrev pub definition_of : Option Text → Context → Option Definition
definition_of p c = if is_top p then None else option_and_then (λ t. definition_at t c.current.terms) p

-- The container mapping of a definition; no word where there is none.
abbrev pub container_of : Option Definition → Shape
container_of None = no_words
container_of (Some d) = d.container

-- A text expands, with the vocabulary, to this one.
abbrev pub expands_to : Settings → Text → Text → Bool
expands_to c word t = same_text (expand_iri c false true t) (Some word)

-- A key of the map does.
abbrev pub has_key : Settings → Text → Pairs → Bool
has_key c word es = list_any (λ e. expands_to c word e.0) es

-- A value made an array. [Ours: null is made the empty array.]
abbrev pub as_items : Tree → List Tree
as_items null = []
as_items (array ts) = tree_list ts
as_items t = t ∷ []

-- The items of an array, or the one value that isn't one.
abbrev pub values_of : Tree → List Tree
values_of (array ts) = tree_list ts
values_of t = t ∷ []

-- The values at a key; none where it is absent.
abbrev pub values_at : Text → Pairs → List Tree
values_at k r = option_map_or values_of (member_at k r) []

abbrev pub is_map : Tree → Bool
is_map (object ms) = true
is_map _ = false

abbrev pub is_text : Tree → Bool
is_text (text s) = true
is_text _ = false

abbrev pub is_null : Tree → Bool
is_null null = true
is_null _ = false

-- The members of a map; none of what is no map.
abbrev pub members_in : Tree → Pairs
members_in (object ms) = member_list ms
members_in _ = []

-- The key is there.
abbrev pub has : Text → Pairs → Bool
has k r = is_some (member_at k r)

-- A value object, a list object, and a node object (JSON-LD 1.1, sections 4.2, 4.3, 3.3): each a map, by its keys.
abbrev pub is_value_object : Tree → Bool
is_value_object (object ms) = has (codes "@value") (member_list ms)
is_value_object _ = false

abbrev pub is_list_object : Tree → Bool
is_list_object (object ms) = has (codes "@list") (member_list ms)
is_list_object _ = false

abbrev pub is_node_object : Tree → Bool
is_node_object (object ms) = not (has (codes "@value") (member_list ms) || has (codes "@list") (member_list ms) || has (codes "@set") (member_list ms))
is_node_object _ = false

-- A map with one entry.
abbrev pub one_entry : Text → Tree → Tree
one_entry k t = object (members_of (put k t []))

-- A list object of these items.
abbrev pub list_object : List Tree → Tree
list_object ts = one_entry (codes "@list") (array (trees_of ts))

-- The graph object of one item.
abbrev pub graph_object : Tree → Tree
graph_object t = one_entry (codes "@graph") (array (tree t no_trees))
