-- The rules of the recursion, each with the place of its errors (JSON-LD 1.1 API, section 5.1.2). None of them expands a value. [Ours:
-- the places. An error of context processing is at the map or scalar for which it was called, one of an entry at the entry, and one
-- of the last tests at the map.]
use Rattle.std.specs.Prelude.{ℕ, not, Bool, true, false, List, [], ◌∷◌, Option, None, Some, Result, Ok, Err, codes, if◌then◌else◌}
use Rattle.std.specs.Option.{option_map_or, unwrap_or}
use Rattle.std.specs.Str.{bytes_eq}
use Rattle.ld_json.specs.declared.location.Step.{Step}
use Rattle.ld_model.specs.Tree.{Tree, Pairs, null, object, no_members, member, members_of}
use Rattle.case_tables.specs.declared.code.Code.{Code}
use Rattle.case_tables.specs.declared.code.Code.TheVariants as code
use Rattle.ctx_types.specs.Context.{Text, Definition, Context, definition_at, initial}
use Rattle.ctx_model.specs.Outcome.{unless}
use Rattle.expand_model.specs.declared.Name.{Name}
use Rattle.expand_model.specs.declared.Name.TheVariants.{Dropped, Keyword, Property}
use Rattle.expand_model.specs.Scope.{Options, Scope, MapScope, Fault, located, in_key, in_item, definition_of, container_of, expands_to, has_key, is_top, as_items}
use Rattle.expand_model.specs.Values.{expand_value}
use Rattle.expand_model.specs.Contexts.{in_property, entered}
use Rattle.expand_model.specs.Entries.{under}
use Rattle.expand_model.specs.Keywords.{begun, keyword_told, keyword_added}
use Rattle.expand_model.specs.Properties.{property_told, property_added}
use Rattle.expand_model.specs.Indexes as index
use Rattle.expand_model.specs.Indexes.{index_context, index_under, has_lists, index_added}
use Rattle.expand_model.specs.Finish.{finish_map}

-- What a value is expanded with, and its place.
pub record At : Type 0 where
  pub scope : Scope
  pub place : List Step

-- What the entries of a map are expanded with, and the map's place.
pub record Inside : Type 0 where
  pub scope : MapScope
  pub place : List Step

infixl 10 ◌>>=◌
abbrev pub ◌>>=◌ : {A B E : Type 0} → Result A E → (A → Result B E) → Result B E
Ok a >>= f = f a
Err e >>= f = Err e

abbrev pub item_at : ℕ → At → At
item_at n a = record a { place = in_item n a.place }

-- Step 4: a scalar.
abbrev pub or_null : Option Tree → Tree
or_null t = unwrap_or t null

abbrev pub scalar_in : Options → Text → Tree → Scope → Result Tree Code
scalar_in o p t a = in_property o (definition_of (Some p) a.context) a.context >>= (λ c. Ok (or_null (expand_value c.current p t)))

abbrev pub scalar_under : Options → Option Text → Tree → Scope → Result Tree Code
scalar_under o None t a = Ok null
scalar_under o (Some p) t a = if is_top (Some p) then Ok null else scalar_in o p t a

unfoldable pub scalar : Options → Tree → Scope → Result Tree Code
scalar o t a = scalar_under o a.property t a

abbrev pub scalar_at : Options → Tree → At → Result Tree Fault
scalar_at o t a = located a.place (scalar o t a.scope)

-- Step 5: an outcome among the items of an array.
abbrev pub lists_at : At → Bool
lists_at a = has_lists a.scope

unfoldable pub spliced : Bool → Tree → List Tree
spliced lists v = index.spliced lists v

-- Steps 7 to 12.
abbrev pub entered_within : List Step → Result MapScope Code → Result Inside Fault
entered_within p (Ok m) = Ok (record { scope = m; place = p })
entered_within p (Err c) = Err (record { code = c; place = p })

abbrev pub entered_at : Options → Pairs → At → Result Inside Fault
entered_at o es a = entered_within a.place (entered o es a.scope)

-- Steps 15 to 20.
abbrev pub finished : Pairs → Option Text → Result Tree Code
finished r p = finish_map r p >>= (λ t. Ok (or_null t))

abbrev pub finished_at : At → Pairs → Result Tree Fault
finished_at a r = located a.place (finished r a.scope.property)

-- The definition of a key.
abbrev pub definition_in : Text → Inside → Option Definition
definition_in k e = definition_at k e.scope.context.current.terms

-- The value at an entry.
abbrev pub value_at : Name → Text → Inside → At
value_at n k e = record { scope = under n k e.scope; place = in_key k e.place }

-- Step 13, for an entry whose value isn't expanded.
abbrev pub told : Name → Option Definition → Tree → MapScope → Pairs → Result Pairs Code
told Dropped d t m r = Ok r
told (Keyword w) d t m r = keyword_told m.context.current m.types.current m.json m.property w t r
told (Property p) d t m r = property_told m.context.current d p t r

abbrev pub told_at : Name → Option Definition → Text → Tree → Inside → Pairs → Result Pairs Fault
told_at n d k t e r = located (in_key k e.place) (told n d t e.scope r)

-- Before a value is expanded, and after.
abbrev pub begun_at : Name → Text → Inside → Pairs → Result (Unit {0}) Fault
begun_at n k e r = located (in_key k e.place) (begun e.scope.property n r)

abbrev pub added : Name → Option Definition → Tree → Pairs → Result Pairs Code
added Dropped d v r = Ok r
added (Keyword w) d v r = keyword_added w v r
added (Property p) d v r = property_added d p v r

abbrev pub added_at : Name → Option Definition → Text → Tree → Inside → Pairs → Result Pairs Fault
added_at n d k v e r = located (in_key k e.place) (added n d v r)

-- Step 13.8: a value at an index, and the items so far with those that it came to.
abbrev pub index_within : Text → List Step → List Step → Result Context Code → Result At Fault
index_within k p at (Ok c) = Ok (record { scope = index_under c k; place = p })
index_within k p at (Err x) = Err (record { code = x; place = at })

abbrev pub index_at : Options → Text → Text → Inside → Result At Fault
index_at o i k e = index_within k (in_key i (in_key k e.place)) e.place (index_context o (definition_in k e) i e.scope.context)

abbrev pub indexed_at : Text → Text → Tree → Tree → At → Inside → List Tree → Result (List Tree) Fault
indexed_at i k t v a e out = located (in_key k e.place) (index_added e.scope.context.current (definition_in k e) (has_lists a.scope) i t v out)

-- Step 14: a nest, its value, and the items of that.
abbrev pub is_nest : Text → Inside → Bool
is_nest k e = expands_to e.scope.context.current (codes "@nest") k

abbrev pub not_nestable : Text → Inside → Fault
not_nestable k e = record { code = code.InvalidNestValue; place = in_key k e.place }

abbrev pub nestable : Pairs → Text → Inside → Result (Unit {0}) Fault
nestable ms k e = located (in_key k e.place) (unless (not (has_key e.scope.context.current (codes "@value") ms)) code.InvalidNestValue)

abbrev pub nest_in : Text → Inside → Inside
nest_in k e = record e { place = in_key k e.place }

abbrev pub nest_item_in : ℕ → Text → Inside → Inside
nest_item_in n k e = record e { place = in_item n (in_key k e.place) }

-- What the document is expanded with.
abbrev pub start : Options → At
start o = record { scope = record { context = initial o.base; property = None; from_map = false }; place = [] }

-- The items of the document: a map with just `@graph` is the items of that.
abbrev pub whole_items : Tree → List Tree
whole_items (object (member k t no_members)) = if bytes_eq k (codes "@graph") then as_items t else object (member k t no_members) ∷ []
whole_items t = as_items t
