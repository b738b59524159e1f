-- Maps of indexes, ids and types (JSON-LD 1.1 API, section 5.1.2, step 13.8). An error of context processing is at the map that has
-- the property, and another one at the property's entry.
use Rattle.std.specs.Prelude.{◌&&◌, ◌||◌, not, Bool, true, false, List, [], ◌∷◌, ◌++◌, Option, None, Some, Result, Ok, Err, codes, if◌then◌else◌}
use Rattle.std.specs.List.{list_all}
use Rattle.std.specs.Option.{option_and_then, unwrap_or}
use Rattle.std.specs.Str.{bytes_eq}
use Rattle.ld_model.specs.Tree.{Tree, null, text, array, object, Trees, Pairs, trees_of, tree_list, members_of, member_list, put}
use Rattle.case_tables.specs.declared.code.Code.{Code}
use Rattle.case_tables.specs.declared.code.Code.TheVariants as code
use Rattle.case_tables.specs.declared.shape.Shape.{Shape}
use Rattle.ctx_types.specs.Context.{Text, Definition, Settings, Context, definition_at}
use Rattle.ctx_types.specs.Expansion.{expand_iri}
use Rattle.ctx_model.specs.Outcome.{◌>>=◌, unless}
use Rattle.ctx_model.specs.Words.{among}
use Rattle.expand_model.specs.Scope.{Options, Scope, definition_of, container_of, expands_to, as_items, values_at, has, list_object, graph_object}
use Rattle.expand_model.specs.Values.{expand_value, put_text}
use Rattle.expand_model.specs.Contexts.{by_scoped, scoped_of, previous_or}

-- Steps 13.8.3.1 to 13.8.3.3: the map context: for maps of ids and types the previous context, where there is one; for maps of types with the
-- scoped context of the index. [Ours: the definition of the index is looked up in the map context.]
abbrev pub map_context : Shape → Context → Context
map_context s c = if s.id || s.types then previous_or c else c

abbrev pub index_typed : Options → Text → Context → Result Context Code
index_typed o i c = by_scoped o false true (scoped_of (definition_at i c.current.terms)) c

unfoldable pub index_context : Options → Option Definition → Text → Context → Result Context Code
index_context o d i c =
    if (container_of d).types then index_typed o i (map_context (container_of d) c) else Ok (map_context (container_of d) c)

-- What the values at an index are expanded with.
abbrev pub index_under : Context → Text → Scope
index_under c k = record { context = c; property = Some k; from_map = true }

-- An outcome among the items of an array: null is dropped and an array is spliced, or is a list where the property's container has lists.
abbrev pub spliced : Bool → Tree → List Tree
spliced lists null = []
spliced lists (array ts) = if lists then list_object (tree_list ts) ∷ [] else tree_list ts
spliced lists t = t ∷ []

-- The property's container has lists.
abbrev pub has_lists : Scope → Bool
has_lists a = (container_of (definition_of a.property a.context)).list

-- The items that a value at an index comes to, which is expanded as an array.
abbrev pub index_items : Bool → Tree → Tree → List Tree
index_items lists (array ts) v = as_items v
index_items lists t v = spliced lists v

-- Step 13.8.3.7: the entry that an item gets for its index.
abbrev pub index_key : Option Definition → Text
index_key d = unwrap_or (option_and_then (λ d. d.index) d) (codes "@index")

-- Step 13.8.3.7.1: the item is put into a graph object, unless it is one.
abbrev pub is_graph_key : Text × Tree → Bool
is_graph_key e = among e.0 (codes "@graph" ∷ codes "@id" ∷ codes "@index" ∷ [])

abbrev pub is_graph_object : Tree → Bool
is_graph_object (object ms) = has (codes "@graph") (member_list ms) && list_all is_graph_key (member_list ms)
is_graph_object _ = false

abbrev pub in_graph : Shape → Tree → Tree
in_graph s t = if s.graph && not (is_graph_object t) then graph_object t else t

-- A value stands before those of a key. Where there is no key or no value, nothing is put. [Ours: where either is null.]
abbrev pub put_before : Option Text → Option Tree → Pairs → Pairs
put_before (Some k) (Some v) r = put k (array (trees_of (v ∷ values_at k r))) r
put_before _ _ r = r

abbrev pub has_named : Option Text → Pairs → Bool
has_named None r = false
has_named (Some k) r = has k r

-- Step 13.8.3.7.2: an index that is the value of a property. No value object gets one.
abbrev pub property_indexed : Bool → Option Text → Pairs → Result Pairs Code
property_indexed is_value key r = do
  _ ← unless (not (is_value && has_named key r)) code.InvalidValueObject
  Ok r

abbrev pub by_property : Settings → Text → Text → Pairs → Result Pairs Code
by_property c key i ms =
    property_indexed (has (codes "@value") ms) (expand_iri c false true key) (put_before (expand_iri c false true key) (expand_value c key (text i)) ms)

-- Steps 13.8.3.7.2 to 13.8.3.7.5: what the index adds to an item: the first of these that the container asks for.
abbrev pub type_before : Settings → Text → Pairs → Pairs
type_before c i ms = put_before (Some (codes "@type")) (as_text (expand_iri c false true i)) ms
  where
    as_text : Option Text → Option Tree
    as_text None = None
    as_text (Some t) = Some (text t)

abbrev pub by_container : Settings → Shape → Text → Text → Pairs → Result Pairs Code
by_container c s key i ms =
    if s.index && not (bytes_eq key (codes "@index")) then by_property c key i ms
    else if s.index && not (has (codes "@index") ms) then Ok (put (codes "@index") (text i) ms)
    else if s.id && not (has (codes "@id") ms) then Ok (put_text (codes "@id") (expand_iri c true false i) ms)
    else if s.types then Ok (type_before c i ms)
    else Ok ms

abbrev pub members_indexed : Settings → Option Definition → Text → Pairs → Result Tree Code
members_indexed c d i ms = do
  r ← by_container c (container_of d) (index_key d) i ms
  Ok (object (members_of r))

abbrev pub with_index : Settings → Option Definition → Text → Tree → Result Tree Code
with_index c d i (object ms) = members_indexed c d i (member_list ms)
with_index c d i t = Ok t

-- Step 13.8.3.7: an item, in the active context of the map that has the property. An index that expands to `@none` adds nothing.
unfoldable pub indexed : Settings → Option Definition → Text → Tree → Result Tree Code
indexed c d i t =
    if expands_to c (codes "@none") i then Ok (in_graph (container_of d) t) else with_index c d i (in_graph (container_of d) t)

abbrev pub each_indexed : Settings → Option Definition → Text → List Tree → List Tree → Result (List Tree) Code
each_indexed c d i [] out = Ok out
each_indexed c d i (t ∷ ts) out = do
  x ← indexed c d i t
  each_indexed c d i ts (out ++ x ∷ [])

-- The items so far, and those of an outcome.
unfoldable pub index_added : Settings → Option Definition → Bool → Text → Tree → Tree → List Tree → Result (List Tree) Code
index_added c d lists i t v out = each_indexed c d i (index_items lists t v) out
