-- Entries whose keys are keywords (JSON-LD 1.1 API, section 5.1.2, step 13.4). An error is at the entry.
use Rattle.std.specs.Prelude.{◌&&◌, ◌||◌, not, Bool, true, false, List, [], ◌∷◌, Option, None, Some, Result, Ok, Err, codes, is_none, if◌then◌else◌}
use Rattle.std.specs.List.{list_all, filter_map}
use Rattle.std.specs.Option.{option_map, option_and_then}
use Rattle.std.specs.Str.{bytes_eq}
use Rattle.ld_model.specs.Tree.{Tree, null, truth, whole, one_one, text, array, object, Pairs, trees_of, tree_list, member_list, member_at, put}
use Rattle.case_tables.specs.Keyword.{keyword_name}
use Rattle.case_tables.specs.declared.code.Code.{Code}
use Rattle.case_tables.specs.declared.code.Code.TheVariants as code
use Rattle.case_tables.specs.declared.keyword.Keyword.{Keyword as Word}
use Rattle.case_tables.specs.declared.keyword.Keyword.TheVariants as word
use Rattle.ctx_types.specs.Context.{Text, Settings}
use Rattle.ctx_types.specs.Expansion.{expand_iri}
use Rattle.ctx_model.specs.Outcome.{◌>>=◌, unless}
use Rattle.ctx_model.specs.Words.{same_text}
use Rattle.expand_model.specs.declared.Name.{Name}
use Rattle.expand_model.specs.declared.Name.TheVariants.{Dropped, Keyword, Property}
use Rattle.expand_model.specs.Scope.{as_items, values_of, has, is_null, is_text, is_node_object, members_in}
use Rattle.expand_model.specs.Values.{add_all}
use Rattle.expand_model.specs.Properties.{reverse_added}

-- Step 13.4.2: an entry that may come twice.
abbrev pub may_repeat : Word → Bool
may_repeat word.Included = true
may_repeat word.TypeWord = true
may_repeat _ = false

-- Steps 13.4.1 and 13.4.2: no keyword stands in a map under `@reverse`, and none comes twice but `@included` and `@type`.
abbrev pub keyword_begun : Option Text → Word → Pairs → Result (Unit {0}) Code
keyword_begun p w r = do
  _ ← unless (not (same_text p (Some (codes "@reverse")))) code.InvalidReversePropertyMap
  unless (may_repeat w || is_none (member_at (keyword_name w) r)) code.CollidingKeywords

unfoldable pub begun : Option Text → Name → Pairs → Result (Unit {0}) Code
begun p Dropped r = Ok tt
begun p (Keyword w) r = keyword_begun p w r
begun p (Property i) r = Ok tt

-- Step 13.4.3: `@id`. [Ours: an id that expands to null is not added.]
abbrev pub id_told : Settings → Tree → Result (Option Tree) Code
id_told c (text s) = Ok (option_map text (expand_iri c true false s))
id_told c _ = Err code.InvalidIdValue

-- Step 13.4.4: `@type`, in the type-scoped context. [Ours: a type that expands to null is dropped, and a lone one adds no entry.]
abbrev pub type_in : Settings → Tree → Option Tree
type_in types (text s) = option_map text (expand_iri types true true s)
type_in types _ = None

abbrev pub type_told : Settings → Tree → Result (Option Tree) Code
type_told types (text s) = Ok (type_in types (text s))
type_told types (array ts) = if list_all is_text (tree_list ts) then Ok (Some (array (trees_of (filter_map (type_in types) (tree_list ts))))) else Err code.InvalidTypeValue
type_told types _ = Err code.InvalidTypeValue

-- Step 13.4.7: `@value`. Null is kept for now.
abbrev pub is_scalar_or_null : Tree → Bool
is_scalar_or_null (array ts) = false
is_scalar_or_null (object ms) = false
is_scalar_or_null _ = true

abbrev pub value_told : Bool → Tree → Result (Option Tree) Code
value_told json t = if json || is_scalar_or_null t then Ok (Some t) else Err code.InvalidValueObjectValue

-- Step 13.4.8: `@language`. [Ours: it is kept as written.]
abbrev pub language_told : Tree → Result (Option Tree) Code
language_told (text s) = Ok (Some (text s))
language_told _ = Err code.InvalidLanguageTaggedString

-- Step 13.4.9: `@direction`.
abbrev pub direction_told : Tree → Result (Option Tree) Code
direction_told (text s) = if bytes_eq s (codes "ltr") || bytes_eq s (codes "rtl") then Ok (Some (text s)) else Err code.InvalidBaseDirection
direction_told _ = Err code.InvalidBaseDirection

-- Step 13.4.10: `@index`.
abbrev pub index_told : Tree → Result (Option Tree) Code
index_told (text s) = Ok (Some (text s))
index_told _ = Err code.InvalidIndexValue

-- The value that these keywords get in the active context and the type-scoped one. No other keyword gets one so.
unfoldable pub keyword_entry : Settings → Settings → Word → Tree → Bool → Result (Option Tree) Code
keyword_entry c types word.Id t json = id_told c t
keyword_entry c types word.TypeWord t json = type_told types t
keyword_entry c types word.Value t json = value_told json t
keyword_entry c types word.Language t json = language_told t
keyword_entry c types word.Direction t json = direction_told t
keyword_entry c types word.Index t json = index_told t
keyword_entry c types _ t json = Ok None

-- Step 13.4.16: the value is the entry's; a later `@type` is appended to the earlier, as an array.
abbrev pub type_put : Tree → Pairs → Pairs
type_put t r = if has (codes "@type") r then add_all (codes "@type") (values_of t) r else put (codes "@type") t r

unfoldable pub keyword_put : Word → Option Tree → Pairs → Pairs
keyword_put w None r = r
keyword_put word.TypeWord (Some t) r = type_put t r
keyword_put w (Some t) r = put (keyword_name w) t r

-- Step 13.4.13.1: the value of `@reverse` is a map; that of another keyword that is not expanded may be anything.
abbrev pub may_be_told : Word → Result (Unit {0}) Code
may_be_told word.Reverse = Err code.InvalidReverseValue
may_be_told _ = Ok tt

-- A keyword whose value isn't expanded. [Ours: keywords that have no meaning in a node object are dropped, those of framing too.]
unfoldable pub keyword_told : Settings → Settings → Bool → Option Text → Word → Tree → Pairs → Result Pairs Code
keyword_told c types json p w t r = do
  _ ← keyword_begun p w r
  _ ← may_be_told w
  v ← keyword_entry c types w t json
  Ok (keyword_put w v r)

-- Step 13.4.6: `@included` has node objects. [Ours: null is none.]
abbrev pub included_added : Tree → Pairs → Result Pairs Code
included_added v r = do
  _ ← unless (not (is_null v) && list_all is_node_object (values_of v)) code.InvalidIncludedValue
  Ok (add_all (codes "@included") (values_of v) r)

-- Step 13.4.13.3: what stands reversed inside a reverse map is a property again.
abbrev pub forward_added : Pairs → Pairs → Pairs
forward_added [] r = r
forward_added (m ∷ ms) r = forward_added ms (add_all m.0 (values_of m.1) r)

-- Step 13.4.13.4: all else is reversed.
abbrev pub each_reversed : Pairs → Pairs → Result Pairs Code
each_reversed [] r = Ok r
each_reversed (m ∷ ms) r = do
  r₁ ← if bytes_eq m.0 (codes "@reverse") then Ok r else reverse_added m.0 (values_of m.1) r
  each_reversed ms r₁

abbrev pub reversed_in : Pairs → Pairs
reversed_in ms = member_members (member_at (codes "@reverse") ms)
  where
    member_members : Option Tree → Pairs
    member_members None = []
    member_members (Some t) = members_in t

unfoldable pub reverse_map_added : Tree → Pairs → Result Pairs Code
reverse_map_added v r = each_reversed (members_in v) (forward_added (reversed_in (members_in v)) r)

-- What is made of the outcome of a keyword's value.
unfoldable pub keyword_added : Word → Tree → Pairs → Result Pairs Code
keyword_added word.Graph v r = Ok (put (codes "@graph") (array (trees_of (as_items v))) r)
keyword_added word.Included v r = included_added v r
keyword_added word.List v r = Ok (put (codes "@list") (array (trees_of (as_items v))) r)
keyword_added word.Set v r = Ok (put (codes "@set") v r)
keyword_added word.Reverse v r = reverse_map_added v r
keyword_added _ v r = Ok r
