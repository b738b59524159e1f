-- The tests of what the entries of a map came to (JSON-LD 1.1 API, section 5.1.2, steps 15 to 19). An error is at the map.
use Rattle.std.specs.Prelude.{◌&&◌, ◌||◌, not, Bool, true, false, List, [], ◌∷◌, Option, None, Some, Result, Ok, Err, codes, if◌then◌else◌}
use Rattle.std.specs.List.{list_all}
use Rattle.std.specs.Option.{option_map_or}
use Rattle.std.specs.Str.{bytes_eq}
use Rattle.ld_model.specs.Tree.{Tree, null, text, array, object, Trees, no_trees, tree, Pairs, members_of, member_list, member_at, put, is_empty}
use Rattle.ld_model.specs.Iri.{has_scheme}
use Rattle.ld_model.specs.Label.{is_blank}
use Rattle.case_tables.specs.declared.code.Code.{Code}
use Rattle.case_tables.specs.declared.code.Code.TheVariants as code
use Rattle.ctx_types.specs.Context.{Text}
use Rattle.ctx_model.specs.Outcome.{◌>>=◌, unless}
use Rattle.ctx_model.specs.Words.{among}
use Rattle.expand_model.specs.Scope.{has, is_null, is_text, is_top}

-- Step 15.1: the entries that a value object may have.
abbrev pub is_value_key : Text × Tree → Bool
is_value_key e = among e.0 (codes "@direction" ∷ codes "@index" ∷ codes "@language" ∷ codes "@type" ∷ codes "@value" ∷ [])

abbrev pub are_value_entries : Pairs → Bool
are_value_entries r = list_all is_value_key r && not (has (codes "@type") r && (has (codes "@language") r || has (codes "@direction") r))

-- Step 15.2: a JSON literal.
abbrev pub is_json_word : Tree → Bool
is_json_word (text s) = bytes_eq s (codes "@json")
is_json_word _ = false

-- Step 15.5: a datatype has the form of an IRI, and is no blank node identifier.
abbrev pub is_datatype : Tree → Bool
is_datatype (text s) = has_scheme s && not (is_blank s)
is_datatype _ = false

-- Steps 15.3 to 15.5.
abbrev pub literal_tested : Tree → Pairs → Result (Option Tree) Code
literal_tested v r = do
  _ ← unless (not (has (codes "@language") r) || is_text v) code.InvalidLanguageTaggedValue
  _ ← unless (option_map_or is_datatype (member_at (codes "@type") r) true) code.InvalidTypedValue
  Ok (Some (object (members_of r)))

abbrev pub literal_finished : Tree → Pairs → Result (Option Tree) Code
literal_finished v r = if is_null v then Ok None else literal_tested v r

-- Step 15: a map with `@value`.
abbrev pub value_finished : Tree → Pairs → Result (Option Tree) Code
value_finished v r = do
  _ ← unless (are_value_entries r) code.InvalidValueObject
  if option_map_or is_json_word (member_at (codes "@type") r) false then Ok (Some (object (members_of r))) else literal_finished v r

-- Step 16: the types of a node object stand in an array.
abbrev pub types_array : Option Tree → Pairs → Pairs
types_array None r = r
types_array (Some (array ts)) r = r
types_array (Some t) r = put (codes "@type") (array (tree t no_trees)) r

-- Step 17: beside `@set` or `@list` only `@index` may stand. [Ours: the types are tested as an entry of their own, whatever step 16 did.]
abbrev pub is_set_key : Text × Tree → Bool
is_set_key e = among e.0 (codes "@index" ∷ codes "@list" ∷ codes "@set" ∷ [])

abbrev pub are_set_entries : Pairs → Bool
are_set_entries r = list_all is_set_key r && not (has (codes "@list") r && has (codes "@set") r)

-- Step 17.2: a set is its items.
abbrev pub set_taken : Option Tree → Pairs → Option Tree
set_taken None r = Some (object (members_of r))
set_taken (Some null) r = None
set_taken (Some t) r = Some t

abbrev pub is_set_or_list : Pairs → Bool
is_set_or_list r = has (codes "@set") r || has (codes "@list") r

abbrev pub node_finished : Pairs → Result (Option Tree) Code
node_finished r = do
  _ ← unless (not (is_set_or_list r) || are_set_entries r) code.InvalidSetOrListObject
  Ok (set_taken (member_at (codes "@set") r) r)

abbrev pub by_value : Option Tree → Pairs → Result (Option Tree) Code
by_value (Some v) r = value_finished v r
by_value None r = node_finished (types_array (member_at (codes "@type") r) r)

-- Step 18: a map with just a language.
abbrev pub is_lone : Text → Pairs → Bool
is_lone k (e ∷ []) = bytes_eq e.0 k
is_lone k _ = false

-- Step 19: what says nothing at the top of a graph: a map that is empty, is a value or list, or has just an id.
abbrev pub is_free : Pairs → Bool
is_free r = is_empty r || has (codes "@value") r || has (codes "@list") r || is_lone (codes "@id") r

abbrev pub is_dropped : Option Text → Tree → Bool
is_dropped p (object ms) = is_lone (codes "@language") (member_list ms) || (is_top p && is_free (member_list ms))
is_dropped p _ = false

abbrev pub unless_dropped : Option Text → Option Tree → Option Tree
unless_dropped p None = None
unless_dropped p (Some t) = if is_dropped p t then None else Some t

-- Steps 15 to 19: what a map comes to under its active property; None where it is dropped.
unfoldable pub finish_map : Pairs → Option Text → Result (Option Tree) Code
finish_map r p = do
  t ← by_value (member_at (codes "@value") r) r
  Ok (unless_dropped p t)
