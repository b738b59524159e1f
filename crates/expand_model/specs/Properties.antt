-- Entries whose keys are properties (JSON-LD 1.1 API, section 5.1.2, steps 13.5 to 13.14). An error is at the entry.
use Rattle.std.specs.Prelude.{◌&&◌, ◌||◌, not, Bool, true, false, List, [], ◌∷◌, Option, None, Some, Result, Ok, Err, codes, map, if◌then◌else◌}
use Rattle.std.specs.List.{list_all, list_any, filter_map, flat_map}
use Rattle.ld_model.specs.Tree.{Tree, null, text, array, object, Pairs, trees_of, members_of, member_list, member_at, put}
use Rattle.case_tables.specs.declared.code.Code.{Code}
use Rattle.case_tables.specs.declared.code.Code.TheVariants as code
use Rattle.case_tables.specs.declared.shape.Shape.{Shape}
use Rattle.ctx_types.specs.Context.{Text, Definition, Settings}
use Rattle.ctx_model.specs.Outcome.{◌>>=◌, unless}
use Rattle.expand_model.specs.Scope.{container_of, expands_to, as_items, values_of, is_null, is_text, is_list_object, is_value_object, members_in, list_object, graph_object}
use Rattle.expand_model.specs.Values.{is_kind, put_text, direction_for, add_all}

-- Step 13.6: a JSON literal.
abbrev pub json_literal : Tree → Tree
json_literal t = object (members_of (put (codes "@type") (text (codes "@json")) (put (codes "@value") t [])))

-- Step 13.7: the strings of a language map, language by language; null is passed over. [Ours: languages are kept as written.]
abbrev pub is_language_value : Tree → Bool
is_language_value t = is_null t || is_text t

abbrev pub language_unless_none : Settings → Text → Option Text
language_unless_none c l = if expands_to c (codes "@none") l then None else Some l

abbrev pub language_string : Settings → Option Definition → Text → Tree → Option Tree
language_string c d l (text s) =
    Some (object (members_of (put_text (codes "@direction") (direction_for c d) (put_text (codes "@language") (language_unless_none c l) (put (codes "@value") (text s) [])))))
language_string c d l _ = None

abbrev pub language_strings : Settings → Option Definition → Text × Tree → List Tree
language_strings c d e = filter_map (language_string c d e.0) (values_of e.1)

unfoldable pub language_map : Settings → Option Definition → Pairs → Result (List Tree) Code
language_map c d es = do
  _ ← unless (list_all (λ e. list_all is_language_value (values_of e.1)) es) code.InvalidLanguageMapValue
  Ok (flat_map (language_strings c d) es)

-- Steps 13.6 and 13.7: a value that isn't expanded.
abbrev pub language_value : Settings → Option Definition → Tree → Result Tree Code
language_value c d t = do
  ts ← language_map c d (members_in t)
  Ok (array (trees_of ts))

abbrev pub value_unexpanded : Settings → Option Definition → Tree → Result Tree Code
value_unexpanded c d t = if is_kind (codes "@json") d then Ok (json_literal t) else language_value c d t

-- Step 13.11: under a list container, what is no list object becomes one.
abbrev pub listed : Shape → Tree → Tree
listed s v = if s.list && not (is_list_object v) then list_object (as_items v) else v

-- Step 13.12: under a graph container without ids and indexes, each item becomes a graph object.
abbrev pub graphed : Shape → Tree → Tree
graphed s v = if s.graph && not (s.id || s.index) then array (trees_of (map graph_object (as_items v))) else v

-- Step 13.13: values of a reverse property stand in the result's `@reverse`, under the property. They are nodes. [Ours: the map and
-- its entry are made only when there is a value.]
abbrev pub is_irreversible : Tree → Bool
is_irreversible t = is_value_object t || is_list_object t

abbrev pub reverses_of : Option Tree → Pairs
reverses_of None = []
reverses_of (Some t) = members_in t

abbrev pub reverse_put : Text → List Tree → Pairs → Pairs
reverse_put p [] r = r
reverse_put p (t ∷ ts) r = put (codes "@reverse") (object (members_of (add_all p (t ∷ ts) (reverses_of (member_at (codes "@reverse") r))))) r

unfoldable pub reverse_added : Text → List Tree → Pairs → Result Pairs Code
reverse_added p ts r = do
  _ ← unless (not (list_any is_irreversible ts)) code.InvalidReversePropertyValue
  Ok (reverse_put p ts r)

abbrev pub is_reverse : Option Definition → Bool
is_reverse None = false
is_reverse (Some d) = d.reverse

-- Steps 13.13 and 13.14.
abbrev pub directed : Option Definition → Text → Tree → Pairs → Result Pairs Code
directed d p v r = if is_reverse d then reverse_added p (as_items v) r else Ok (add_all p (values_of v) r)

-- Steps 13.10 to 13.14: what is made of the outcome of a property's value.
abbrev pub value_added : Option Definition → Text → Tree → Pairs → Result Pairs Code
value_added d p v r = directed d p (graphed (container_of d) (listed (container_of d) v)) r

unfoldable pub property_added : Option Definition → Text → Tree → Pairs → Result Pairs Code
property_added d p v r = if is_null v then Ok r else value_added d p v r

-- A property whose value isn't expanded.
unfoldable pub property_told : Settings → Option Definition → Text → Tree → Pairs → Result Pairs Code
property_told c d p t r = do
  v ← value_unexpanded c d t
  property_added d p v r
