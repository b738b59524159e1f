-- Value expansion (JSON-LD 1.1 API, section 5.3.2), and adding a value to an entry (the standard's Add Value).
use Rattle.std.specs.Prelude.{◌&&◌, ◌||◌, Bool, true, false, List, [], ◌∷◌, ◌++◌, Option, None, Some, codes, if◌then◌else◌}
use Rattle.std.specs.Option.{option_map, option_map_or, option_and_then}
use Rattle.std.specs.Str.{bytes_eq}
use Rattle.ld_model.specs.Tree.{Tree, Trees, no_trees, tree, text, array, object, Pairs, trees_of, members_of, member_at, put}
use Rattle.ctx_types.specs.declared.definition.Slot.{Slot}
use Rattle.ctx_types.specs.declared.definition.Slot.TheVariants.{Absent, Null, Is}
use Rattle.ctx_types.specs.declared.definition.Side.{Side}
use Rattle.ctx_types.specs.declared.definition.Side.TheVariants.{Ltr, Rtl}
use Rattle.ctx_types.specs.Context.{Text, Definition, Settings, definition_at}
use Rattle.ctx_types.specs.Expansion.{expand_iri}
use Rattle.ctx_model.specs.Words.{among, same_text}
use Rattle.expand_model.specs.Scope.{one_entry, values_of, values_at}

-- The text is put at the key, where there is one.
abbrev pub put_text : Text → Option Text → Pairs → Pairs
put_text k None r = r
put_text k (Some t) r = put k (text t) r

-- The type mapping of a definition.
abbrev pub kind_of : Option Definition → Option Text
kind_of d = option_and_then (λ d. d.kind) d

-- It is this one.
abbrev pub is_kind : Text → Option Definition → Bool
is_kind k d = same_text (kind_of d) (Some k)

-- The language and the direction that a text gets: the definition's, or the context's where the definition says nothing of it.
abbrev pub by_slot : {X : Type 0} → Slot X → Option X → Option X
by_slot Absent d = d
by_slot Null d = None
by_slot (Is x) d = Some x

abbrev pub language_for : Settings → Option Definition → Option Text
language_for c None = c.language
language_for c (Some d) = by_slot d.language c.language

abbrev pub side_name : Side → Text
side_name Ltr = codes "ltr"
side_name Rtl = codes "rtl"

abbrev pub direction_for : Settings → Option Definition → Option Text
direction_for c None = option_map side_name c.side
direction_for c (Some d) = option_map side_name (by_slot d.side c.side)

-- Steps 1 and 2: a text as the IRI of a node. [Ours: a text that expands to null has no value.]
abbrev pub reference : Settings → Bool → Text → Option Tree
reference c vocab s = option_map (λ iri. one_entry (codes "@id") (text iri)) (expand_iri c true vocab s)

-- Step 4: a type mapping that is a datatype: none of `@id`, `@vocab` and `@none`.
abbrev pub datatype_of : Option Text → Option Text
datatype_of None = None
datatype_of (Some k) = if among k (codes "@id" ∷ codes "@vocab" ∷ codes "@none" ∷ []) then None else Some k

-- Step 5: a text with its language and direction.
abbrev pub text_value : Settings → Option Definition → Text → Tree
text_value c d s = object (members_of (put_text (codes "@direction") (direction_for c d) (put_text (codes "@language") (language_for c d) (put (codes "@value") (text s) []))))

abbrev pub untyped_value : Settings → Option Definition → Tree → Tree
untyped_value c d (text s) = text_value c d s
untyped_value c d t = one_entry (codes "@value") t

-- Steps 3 to 6: a value object.
abbrev pub value_typed : Settings → Option Definition → Option Text → Tree → Tree
value_typed c d None t = untyped_value c d t
value_typed c d (Some k) t = object (members_of (put (codes "@type") (text k) (put (codes "@value") t [])))

unfoldable pub value_object : Settings → Option Definition → Tree → Tree
value_object c d t = value_typed c d (datatype_of (kind_of d)) t

-- A value for a property with this definition.
abbrev pub value_in : Settings → Option Definition → Tree → Option Tree
value_in c d (text s) =
    if is_kind (codes "@id") d then reference c false s
    else if is_kind (codes "@vocab") d then reference c true s
    else Some (value_object c d (text s))
value_in c d t = Some (value_object c d t)

-- Value expansion of a scalar for a property.
unfoldable pub expand_value : Settings → Text → Tree → Option Tree
expand_value c p t = value_in c (definition_at p c.terms) t

-- Values are added to an entry as an array: an entry that is absent becomes the empty array, and one that isn't an array becomes
-- an array of what it was.
unfoldable pub add_all : Text → List Tree → Pairs → Pairs
add_all k ts r = put k (array (trees_of (values_at k r ++ ts))) r

-- A value is added without an array: an entry that is absent becomes the value, and a second value makes an array.
abbrev pub beside : Text → Tree → Pairs → Option Tree → Pairs
beside k t r None = put k t r
beside k t r (Some v) = put k (array (trees_of (values_of v ++ t ∷ []))) r

abbrev pub add_one : Text → Tree → Pairs → Pairs
add_one k t r = beside k t r (member_at k r)

abbrev pub add_each : Text → List Tree → Pairs → Pairs
add_each k [] r = r
add_each k (t ∷ ts) r = add_each k ts (add_one k t r)

-- The values that are added for a value: for an array those of each of its items, and any other value itself.
abbrev mutual
  pub added_values : Tree → List Tree
  added_values (array ts) = all_added_values ts
  added_values t = t ∷ []

  pub all_added_values : Trees → List Tree
  all_added_values no_trees = []
  all_added_values (tree t ts) = added_values t ++ all_added_values ts

-- Add Value: each item of an array is added in the same way, and any other value itself.
unfoldable pub add_value : Text → Tree → Bool → Pairs → Pairs
add_value k t true r = add_all k (added_values t) r
add_value k t false r = add_each k (added_values t) r
