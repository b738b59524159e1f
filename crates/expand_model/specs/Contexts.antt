-- The contexts with which a value is expanded (JSON-LD 1.1 API, section 5.1.2, steps 3, 4.2 and 7 to 12). An error of context
-- processing is at the map or scalar for which it was called.
use Rattle.std.specs.Prelude.{◌&&◌, not, Bool, true, false, List, [], ◌∷◌, Option, None, Some, Result, Ok, Err, codes, if◌then◌else◌}
use Rattle.std.specs.List.{filter_map}
use Rattle.std.specs.Option.{option_map, option_and_then, option_map_or}
use Rattle.std.specs.Ordering.{is_gt}
use Rattle.ld_model.specs.Tree.{Tree, text, Pairs, member_at, byte_order}
use Rattle.case_tables.specs.declared.code.Code.{Code}
use Rattle.ctx_types.specs.Context.{Text, Definition, Settings, Context, definition_at}
use Rattle.ctx_model.specs.Outcome.{◌>>=◌}
use Rattle.ctx_model.specs.Process.{process}
use Rattle.expand_model.specs.Scope.{Options, Scope, MapScope, definition_of, expands_to, has_key, values_of}

-- Context processing of a local context with this base URL.
unfoldable pub processed : Options → Bool → Bool → Option Text → Tree → Context → Result Context Code
processed o overrides propagates base local c =
    process o.contexts (record { active = c; base = base; remotes = []; overrides = overrides; propagates = propagates; validates = true }) local

-- The local context of a definition, with its base URL.
abbrev pub scoped_of : Option Definition → Option (Tree × Option Text)
scoped_of d = option_and_then (λ d. option_map (λ t. (t, d.base)) d.local) d

-- A scoped context is processed, where there is one.
abbrev pub by_scoped : Options → Bool → Bool → Option (Tree × Option Text) → Context → Result Context Code
by_scoped o overrides propagates None c = Ok c
by_scoped o overrides propagates (Some s) c = processed o overrides propagates s.1 s.0 c

-- Steps 3, 4.2 and 8: the property-scoped context. [Ours: protected terms may be overridden for a scalar, too.]
unfoldable pub in_property : Options → Option Definition → Context → Result Context Code
in_property o d c = by_scoped o true true (scoped_of d) c

-- Step 7: the previous context, where there is one.
abbrev pub previous_or : Context → Context
previous_or c = by c.earlier
  where
    by : List Settings → Context
    by [] = c
    by (s ∷ ss) = record { current = s; earlier = ss }

-- The map has one entry, whose key expands to `@id`.
abbrev pub is_alone : Settings → Text → Pairs → Bool
is_alone c word (e ∷ []) = expands_to c word e.0
is_alone c word _ = false

-- Step 7: an active context that isn't propagated is left, unless the value comes from a map, is a value object, or has just an id.
unfoldable pub is_left : Pairs → Scope → Bool
is_left es a = not a.from_map && not (has_key a.context.current (codes "@value") es) && not (is_alone a.context.current (codes "@id") es)

abbrev pub left : Bool → Context → Context
left true c = previous_or c
left false c = c

-- Step 9: the map's own `@context`.
abbrev pub embedded : Options → Option Tree → Context → Result Context Code
embedded o None c = Ok c
embedded o (Some t) c = processed o false true o.base t c

-- Steps 7 to 9, for a map that leaves the active context or not, and has this `@context`.
unfoldable pub in_map : Options → Scope → Bool → Option Tree → Result Context Code
in_map o a leaves local = do
  c ← in_property o (definition_of a.property a.context) (left leaves a.context)
  embedded o local c

-- Step 11.2: the texts among the types, in ascending order.
abbrev pub text_in : Tree → Option Text
text_in (text s) = Some s
text_in _ = None

abbrev pub placed : Text → List Text → List Text
placed s [] = s ∷ []
placed s (t ∷ ts) = if is_gt (byte_order s t) then t ∷ placed s ts else s ∷ t ∷ ts

abbrev pub ascending : List Text → List Text
ascending [] = []
ascending (s ∷ ss) = placed s (ascending ss)

unfoldable pub type_terms : Tree → List Text
type_terms t = ascending (filter_map text_in (values_of t))

-- Step 11.2: the type-scoped context of one type, of several, and those of the entries whose keys expand to `@type`, each in the
-- context that the ones before it left.
unfoldable pub typed_by : Options → Context → Text → Context → Result Context Code
typed_by o types t c = by_scoped o false false (scoped_of (definition_at t types.current.terms)) c

abbrev pub typed_by_all : Options → Context → List Text → Context → Result Context Code
typed_by_all o types [] c = Ok c
typed_by_all o types (t ∷ ts) c = do
  c₁ ← typed_by o types t c
  typed_by_all o types ts c₁

unfoldable pub typed_by_entry : Options → Context → Text × Tree → Context → Result Context Code
typed_by_entry o types e c = if expands_to c.current (codes "@type") e.0 then typed_by_all o types (type_terms e.1) c else Ok c

-- Steps 10 and 11.
abbrev pub typed : Options → Context → Pairs → Context → Result Context Code
typed o types [] c = Ok c
typed o types (e ∷ es) c = do
  c₁ ← typed_by_entry o types e c
  typed o types es c₁

-- Step 12: the input type is `@json`: it is that of the last value of the first entry whose key expands to `@type`.
abbrev pub last_is_json : Settings → List Tree → Bool
last_is_json c [] = false
last_is_json c (text s ∷ []) = expands_to c (codes "@json") s
last_is_json c (t ∷ []) = false
last_is_json c (t ∷ u ∷ ts) = last_is_json c (u ∷ ts)

abbrev pub is_json : Settings → Pairs → Bool
is_json c [] = false
is_json c (e ∷ es) = if expands_to c (codes "@type") e.0 then last_is_json c (values_of e.1) else is_json c es

-- Steps 7 to 12: what the entries of a map are expanded with.
abbrev pub entered_with : Options → Scope → Pairs → Context → Result MapScope Code
entered_with o a es types = do
  c ← typed o types es types
  Ok (record { context = c; types = types; json = is_json c.current es; property = a.property })

unfoldable pub entered : Options → Pairs → Scope → Result MapScope Code
entered o es a = do
  types ← in_map o a (is_left es a) (member_at (codes "@context") es)
  entered_with o a es types
