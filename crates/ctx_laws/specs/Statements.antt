-- Words in which the laws of context processing are stated.
use Rattle.std.specs.Prelude.{◌≡◌, ℕ, ◌+◌, is_none, is_some, codes, Bool, true, false, not, ◌&&◌, ◌||◌, List, [], ◌∷◌, Option, Some, Ok, if◌then◌else◌}
use Rattle.std.specs.List.{list_any, AllByRecursion}
use Rattle.std.specs.Str.{bytes_eq}
use Rattle.ld_model.specs.Tree.{Tree, Pairs, null, text, array, object, no_trees, trees_of, no_members, member_list, member_at, is_empty}
use Rattle.ctx_types.specs.Context.{Text, Context, Settings, has_protected, initial}
use Rattle.ctx_store.specs.Stored.{Contexts}
use Rattle.ctx_model.specs.State.{State, mark_of}
use Rattle.ctx_model.specs.Definition.{entries_of}
use Rattle.ctx_model.specs.Creation.{is_reserved}
use Rattle.ctx_model.specs.Process.{Ask, process, propagates_in, items_of, loaded}

-- The local context has nothing in it: an empty map, or an empty array.
pub data IsNothing : Tree → Type 0 where
  empty_map : IsNothing (object no_members)
  empty_array : IsNothing (array no_trees)

-- Protected terms of the active context stand against null (section 4.1.2, step 5.1.1).
abbrev pub stands_against_null : Ask → Bool
stands_against_null ask = not ask.overrides && has_protected ask.active.current.terms

-- The active context, followed by its previous contexts; where it has none, it is its own previous context, by step 3.
abbrev pub remembered : Context → List Settings
remembered c = c.current ∷ (if is_empty c.earlier then c.current ∷ [] else c.earlier)

-- A newly initialized context with the original base URL. Where the call does not propagate, it remembers the active one.
abbrev pub anew : Ask → Context
anew ask = record (initial ask.active.current.original) { earlier = if ask.propagates then [] else remembered ask.active }

-- The same call, over another active context.
abbrev pub over : Ask → Context → Ask
over ask c = record ask { active = c }

-- The local context is no array.
abbrev pub is_item : Tree → Bool
is_item (array ts) = false
is_item _ = true

-- The item is null.
abbrev pub is_null : Tree → Bool
is_null null = true
is_null _ = false

-- The local context is one item, whose `@propagate`, if it has one, says what the call says: in an array it is not looked at.
pub record IsItem (ask : Ask) (local : Tree) : Type 0 where
  pub item : is_item local ≡ true
  pub propagates : propagates_in ask.propagates local ≡ ask.propagates

-- Where the items of an array may be processed in two parts, the second over what the first gives.
pub record MayBeParted (store : Contexts) (ask : Ask) (first second : List Tree) : Type 0 where
  -- The call propagates, or the first part gives a context that remembers one: the second part begins with step 3 again.
  pub previous : (c : Context) → process store ask (array (trees_of first)) ≡ Ok c → (ask.propagates || not (is_empty c.earlier)) ≡ true
  -- Null looks for protected terms in the context that was handed in. So where it stands in the second part, and protected
  -- terms may not be overridden, what the first part gives has protected terms exactly where the active context has.
  pub protection : (c : Context) → process store ask (array (trees_of first)) ≡ Ok c → list_any is_null second ≡ true → ask.overrides ≡ false → has_protected c.current.terms ≡ has_protected ask.active.current.terms

-- How many of the entries have a key of which `defined` says nothing yet.
abbrev pub untouched : Pairs → State → ℕ
untouched [] s = 0
untouched (e ∷ es) s = (if is_none (mark_of e.0 s) then 1 else 0) + untouched es s

-- The `@id` is in the form of a keyword, and none.
abbrev pub is_reserved_id : Option Tree → Bool
is_reserved_id (Some (text v)) = is_reserved v
is_reserved_id _ = false

-- For this value, term creation returns before it looks at protection: the value has a `@reverse` (section 4.2.2, step 13), or
-- its `@id` is in the form of a keyword and none (step 14.2.2).
abbrev pub returns_early : Tree → Bool
returns_early v = is_some (member_at (codes "@reverse") (entries_of v)) || is_reserved_id (member_at (codes "@id") (entries_of v))

-- Where the entry is for the term, term creation does not return early for its value.
abbrev pub EntryHeeds : Text → Text × Tree → Type 0
EntryHeeds t e = bytes_eq t e.0 ≡ true → returns_early e.1 ≡ false

-- Each entry of an item that is a map is of the kind.
abbrev pub ItemHas : (Text × Tree → Type 0) → Tree → Type 0
ItemHas E (object ms) = AllByRecursion E (member_list ms)
ItemHas E _ = Unit {0}

-- So is each entry of each item of the local context.
abbrev pub AllHave : (Text × Tree → Type 0) → Tree → Type 0
AllHave E local = AllByRecursion (ItemHas E) (items_of local)

-- The item is a text, the IRI of a context.
abbrev pub is_text : Tree → Bool
is_text (text t) = true
is_text _ = false

-- No item overrides protected terms: each is the IRI of a context, which never does, or the call does not say that it may.
abbrev pub NoneOverrides : Ask → Tree → Type 0
NoneOverrides ask local = AllByRecursion (λ t. is_text t ≡ false → ask.overrides ≡ false) (items_of local)

-- In no item of the local context, and in none of a context that the store gives, does term creation return early for the term.
pub record AllHeed (store : Contexts) (t : Text) (local : Tree) : Type 0 where
  pub here : AllHave (EntryHeeds t) local
  pub there : (iri : Text) (context : Tree) → loaded store iri ≡ Ok context → AllHave (EntryHeeds t) context
