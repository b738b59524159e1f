-- What expansion gives, from the whole down to its entries.
use Rattle.std.specs.Prelude.{◌≡◌, ◌||◌, not, Bool, true, false, List, [], ◌∷◌, Some, codes}
use Rattle.std.specs.List.{list_all, list_any, AllByRecursion}
use Rattle.std.specs.Str.{bytes_eq}
use Rattle.ld_model.specs.Tree.{Tree, text, array, object, Pairs, trees_of, tree_list, members_of, member_at, put, AreAscending}
use Rattle.iri_ref.specs.Parts.{colon}
use Rattle.ctx_types.specs.Context.{Text}
use Rattle.ctx_model.specs.Words.{among}
use Rattle.expand_model.specs.Scope.{has, is_text, is_null, values_at, members_in}
use Rattle.expand_laws.specs.Statements.{IsNodeObject}

-- The keys that a value object may have (JSON-LD 1.1, section 9.5).
abbrev pub is_value_key : Text → Bool
is_value_key k = among k (codes "@direction" ∷ codes "@index" ∷ codes "@language" ∷ codes "@type" ∷ codes "@value" ∷ [])

-- The keys that a list object may have (section 9.7).
abbrev pub is_list_key : Text → Bool
is_list_key k = among k (codes "@index" ∷ codes "@list" ∷ [])

-- The keywords that have a text. [Ours: in a node object `@language` and `@direction` are kept, since the standard drops neither.]
abbrev pub has_text : Text → Bool
has_text k = among k (codes "@direction" ∷ codes "@id" ∷ codes "@index" ∷ codes "@language" ∷ [])

-- The key is a property, an IRI or a blank node identifier: it has a colon.
abbrev pub is_property : Text → Bool
is_property k = list_any colon k

-- The keys that have an array of items.
abbrev pub has_items : Text → Bool
has_items k = is_property k || among k (codes "@graph" ∷ codes "@list" ∷ [])

-- What may be the value of a reversed property: neither a value object nor a list object.
abbrev pub is_reversible : Tree → Bool
is_reversible t = not (has (codes "@value") (members_in t) || has (codes "@list") (members_in t))

-- The types of a node: an array of texts.
abbrev pub are_types : Tree → Bool
are_types (array ts) = list_all is_text (tree_list ts)
are_types _ = false

-- The entries of a value object: no other keys than it may have, and a text at each but `@value`. Null is a value in a JSON literal
-- alone. Nothing else is said of the value: it may be a map or an array where the input type is `@json`, and a type-scoped context
-- may make it so although the type in the outcome is another.
pub record IsValue (r : Pairs) : Type 0 where
  pub ascending : AreAscending r
  pub keys : list_all (λ m. is_value_key m.0) r ≡ true
  pub value : Tree
  pub stands : member_at (codes "@value") r ≡ Some value
  pub some : is_null value ≡ true → member_at (codes "@type") r ≡ Some (text (codes "@json"))
  pub texts : (k : Text) (t : Tree) → member_at k r ≡ Some t → bytes_eq k (codes "@value") ≡ false → is_text t ≡ true

-- The keys of a list object: `@list`, and perhaps `@index`.
pub record HasListKeys (r : Pairs) : Type 0 where
  pub ascending : AreAscending r
  pub list : has (codes "@list") r ≡ true
  pub keys : (k : Text) (t : Tree) → member_at k r ≡ Some t → is_list_key k ≡ true

-- The keys of a node object: neither `@value` nor `@list` nor `@set`.
pub record HasNodeKeys (r : Pairs) : Type 0 where
  pub ascending : AreAscending r
  pub no_value : has (codes "@value") r ≡ false
  pub no_list : has (codes "@list") r ≡ false
  pub no_set : has (codes "@set") r ≡ false

mutual
  -- The entries of a value object, of a list object, or of a node object.
  pub data IsObject : Pairs → Type 0 where
    value_object : (r : Pairs) → IsValue r → IsObject r
    list_object : (r : Pairs) → HasListKeys r → ((k : Text) (t : Tree) → member_at k r ≡ Some t → IsEntry k t) → IsObject r
    node_object : (r : Pairs) → HasNodeKeys r → ((k : Text) (t : Tree) → member_at k r ≡ Some t → IsEntry k t) → IsObject r

  -- An entry of a list object or a node object: a keyword with its text; the types; the map of reversed properties; the included
  -- node objects; or a property, `@graph` or `@list`, each with an array of items.
  pub data IsEntry : Text → Tree → Type 0 where
    a_text : (k : Text) (t : Tree) → has_text k ≡ true → is_text t ≡ true → IsEntry k t
    the_types : (k : Text) (t : Tree) → bytes_eq k (codes "@type") ≡ true → are_types t ≡ true → IsEntry k t
    the_reverse : (k : Text) (t : Tree) (r : Pairs) → bytes_eq k (codes "@reverse") ≡ true → t ≡ object (members_of r) → AreAscending r → ((q : Text) (u : Tree) → member_at q r ≡ Some u → IsReversed q u) → IsEntry k t
    the_included : (k : Text) (t : Tree) (ts : List Tree) → bytes_eq k (codes "@included") ≡ true → t ≡ array (trees_of ts) → AreItems ts → AllByRecursion IsNodeObject ts → IsEntry k t
    the_items : (k : Text) (t : Tree) (ts : List Tree) → has_items k ≡ true → t ≡ array (trees_of ts) → AreItems ts → IsEntry k t

  -- A reversed property, with an array of items of which none is a value object or a list object.
  pub data IsReversed : Text → Tree → Type 0 where
    a_reversed : (q : Text) (u : Tree) (ts : List Tree) → is_property q ≡ true → u ≡ array (trees_of ts) → AreItems ts → list_all is_reversible ts ≡ true → IsReversed q u

  -- The items of an array.
  pub data AreItems : List Tree → Type 0 where
    no_items : AreItems []
    more_items : (t : Tree) (ts : List Tree) → IsItem t → AreItems ts → AreItems (t ∷ ts)

  -- An item: an object; or one that stood in a map of indexes, with the entry that its index adds or changes.
  pub data IsItem : Tree → Type 0 where
    an_object : (t : Tree) (r : Pairs) → t ≡ object (members_of r) → IsObject r → IsItem t
    an_indexed : (t : Tree) (r : Pairs) (k : Text) (u : Tree) → t ≡ object (members_of (put k u r)) → IsObject r → IsIndexEntry r k u → IsItem t

  -- What an index adds to an object with these entries (JSON-LD 1.1 API, section 5.1.2, step 13.8.3.7). It is here that what comes
  -- out may be none of the three kinds, as the standard has it. `@id` and `@type` are added to value objects and list objects, too;
  -- and so, but for value objects, is an index that is the value of a property. Nothing binds the key of that one: it expanded to an
  -- IRI where the container was defined, but where the container is used it may be another name for a keyword, or, without the
  -- vocabulary of then, a text that has no colon.
  pub data IsIndexEntry : Pairs → Text → Tree → Type 0 where
    by_index : (r : Pairs) (k : Text) (u : Tree) → bytes_eq k (codes "@index") ≡ true → has (codes "@index") r ≡ false → is_text u ≡ true → IsIndexEntry r k u
    by_id : (r : Pairs) (k : Text) (u : Tree) → bytes_eq k (codes "@id") ≡ true → has (codes "@id") r ≡ false → is_text u ≡ true → IsIndexEntry r k u
    by_type : (r : Pairs) (k : Text) (u : Tree) (s : Text) → bytes_eq k (codes "@type") ≡ true → u ≡ array (trees_of (text s ∷ values_at k r)) → IsIndexEntry r k u
    by_property : (r : Pairs) (k : Text) (u : Tree) (v : Tree) → has (codes "@value") r ≡ false → u ≡ array (trees_of (v ∷ values_at k r)) → IsItem v → IsIndexEntry r k u
