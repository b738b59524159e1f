-- The parts of a term definition that create no other term (JSON-LD 1.1 API, section 4.2.2). The numbers are those of its
-- steps.
use Rattle.std.specs.Prelude.{Bool, true, false, ◌||◌, ◌&&◌, not, List, [], ◌∷◌, ◌++◌, Option, Some, None, Result, Ok, Err, codes, if◌then◌else◌, is_some}
use Rattle.std.specs.List.{list_all}
use Rattle.std.specs.Option.{option_map, option_and_then}
use Rattle.std.specs.Str.{bytes_eq}
use Rattle.ld_model.specs.Tree.{Tree, null, truth, text, array, object, Trees, no_trees, tree, Pairs, member_list, member_at}
use Rattle.ld_model.specs.Label.{is_blank}
use Rattle.case_tables.specs.declared.code.Code.{Code}
use Rattle.case_tables.specs.declared.code.Code.TheVariants.{InvalidBaseDirection, InvalidContainerMapping, InvalidIriMapping, InvalidLanguageMapping, InvalidNestValue, InvalidPrefixValue, InvalidProtectedValue, InvalidReverseProperty, InvalidScopedContext, InvalidTermDefinition, InvalidTypeMapping, ProtectedTermRedefinition}
use Rattle.case_tables.specs.declared.keyword.Keyword.{Keyword}
use Rattle.case_tables.specs.Keyword.{keyword_name}
use Rattle.case_tables.specs.declared.shape.Shape.{Shape}
use Rattle.case_tables.specs.Shape.{no_words, shape_of}
use Rattle.ctx_types.specs.declared.definition.Slot.{Slot}
use Rattle.ctx_types.specs.declared.definition.Slot.TheVariants.{Absent, Null, Is}
use Rattle.ctx_types.specs.declared.definition.Side.{Side}
use Rattle.ctx_types.specs.declared.definition.Side.TheVariants.{Ltr, Rtl}
use Rattle.ctx_types.specs.Context.{Text, Definition, Settings, Context}
use Rattle.ctx_types.specs.Expansion.{is_keyword, keywords, expand_iri}
use Rattle.ctx_types.specs.Same.{same_but_protected}
use Rattle.ctx_model.specs.Outcome.{◌>>=◌, unless}
use Rattle.ctx_model.specs.Words.{among, is_iri, is_some_keyword, has_slash, has_colon_or_slash, ends_in_delimiter}
use Rattle.ctx_model.specs.State.{State, Local, Scoped, mark, stored}

-- Step 4: what may be said of `@type` as a term. [Ours: the container is just the text `@set`, and the map is not empty.]
abbrev pub is_set_word : Tree → Bool
is_set_word (text c) = bytes_eq c (codes "@set")
is_set_word _ = false

abbrev pub is_type_entry : Text × Tree → Bool
is_type_entry e = bytes_eq e.0 (codes "@protected") || (bytes_eq e.0 (codes "@container") && is_set_word e.1)

abbrev pub are_type_entries : Pairs → Bool
are_type_entries [] = false
are_type_entries (e ∷ es) = list_all is_type_entry (e ∷ es)

abbrev pub may_define_type : Tree → Bool
may_define_type (object ms) = are_type_entries (member_list ms)
may_define_type _ = false

-- Steps 7 to 9: the value as a map. Null and a text are maps with that `@id`.
abbrev pub entries_of : Tree → Pairs
entries_of null = (codes "@id", null) ∷ []
entries_of (text t) = (codes "@id", text t) ∷ []
entries_of (object ms) = member_list ms
entries_of _ = []

-- Step 9: the value is null, a text or a map.
abbrev pub is_definition : Tree → Bool
is_definition null = true
is_definition (text t) = true
is_definition (object ms) = true
is_definition _ = false

-- Step 8: the value is a text, and the term simple.
abbrev pub is_simple : Tree → Bool
is_simple (text t) = true
is_simple _ = false

-- Step 11: whether the definition is protected.
abbrev pub protected_by : Bool → Option Tree → Result Bool Code
protected_by p None = Ok p
protected_by p (Some (truth b)) = Ok b
protected_by p (Some _) = Err InvalidProtectedValue

-- Step 12.4: an outcome that may be a type mapping.
abbrev pub may_be_kind : Option Text → Bool
may_be_kind None = false
may_be_kind (Some t) = among t (codes "@id" ∷ codes "@json" ∷ codes "@none" ∷ codes "@vocab" ∷ []) || is_iri (Some t)

-- Step 13.5: the container of a reverse property.
abbrev pub reverse_word : Text → Result Shape Code
reverse_word c =
    if bytes_eq c (codes "@set") then Ok (record no_words { set = true })
    else if bytes_eq c (codes "@index") then Ok (record no_words { index = true })
    else Err InvalidReverseProperty

abbrev pub reverse_container : Option Tree → Result Shape Code
reverse_container None = Ok no_words
reverse_container (Some null) = Ok no_words
reverse_container (Some (text c)) = reverse_word c
reverse_container (Some _) = Err InvalidReverseProperty

-- Steps 13.6 and 13.7: the definition of a reverse property, with the settings made so far.
abbrev pub reverse_definition : Bool → Option Text → Option Text → Shape → Definition
reverse_definition protected kind mapping container =
    record {
      mapping = mapping;
      prefix = false;
      protected = protected;
      reverse = true;
      base = None;
      local = None;
      container = container;
      side = Absent;
      index = None;
      language = Absent;
      nest = None;
      kind = kind;
    }

-- Step 14.2.5: the term may stand before the colon of a compact IRI.
abbrev pub can_be_prefix : Bool → Text → Option Text → Bool
can_be_prefix simple t None = false
can_be_prefix simple t (Some iri) = simple && not (has_colon_or_slash t) && (is_blank iri || ends_in_delimiter iri)

-- An IRI mapping and the prefix flag; or the term is left without a definition, step 14.2.2.
pub data Mapping : Type 0 where
  maps : Option Text → Bool → Mapping
  leaves_out : Mapping

-- Step 15: what the prefix maps to and the suffix, or the term. [Ours: the term, too, where the prefix maps to null.]
abbrev pub mapped_by_prefix : Text → Text → Option Definition → Text
mapped_by_prefix t suffix None = t
mapped_by_prefix t suffix (Some d) = joined d.mapping
  where
    joined : Option Text → Text
    joined None = t
    joined (Some iri) = iri ++ suffix

-- Steps 16 to 18, for a term without a colon after its first character: a relative IRI, `@type`, or the vocabulary mapping
-- and the term.
abbrev pub by_path : Settings → Text → Result Mapping Code
by_path c t = do
  let iri = expand_iri c false true t
  _ ← unless (is_iri iri) InvalidIriMapping
  Ok (maps iri false)

abbrev pub by_vocabulary : Option Text → Text → Result Mapping Code
by_vocabulary None t = Err InvalidIriMapping
by_vocabulary (Some v) t = Ok (maps (Some (v ++ t)) false)

unfoldable pub without_colon : Settings → Text → Result Mapping Code
without_colon c t =
    if has_slash t then by_path c t
    else if bytes_eq t (codes "@type") then Ok (maps (Some t) false)
    else by_vocabulary c.vocab t

-- Step 19: the container. It is a keyword or an array of keywords.
abbrev pub keyword_at : Text → List Keyword → Option Keyword
keyword_at t [] = None
keyword_at t (k ∷ ks) = if bytes_eq t (keyword_name k) then Some k else keyword_at t ks

abbrev pub word_of : Tree → Option Keyword
word_of (text t) = keyword_at t keywords
word_of _ = None

abbrev pub all_words : Trees → Option (List Keyword)
all_words no_trees = Some []
all_words (tree v vs) = option_and_then (λ k. option_map (λ ks. k ∷ ks) (all_words vs)) (word_of v)

abbrev pub words_of : Tree → Option (List Keyword)
words_of (array vs) = all_words vs
words_of v = option_map (λ k. k ∷ []) (word_of v)

-- [Ours: a keyword stands in the array at most once, since the standard speaks of combinations of keywords.]
abbrev pub container_of : Tree → Option Shape
container_of v = option_and_then shape_of (words_of v)

-- Step 19.4: with `@type` in the container, the type mapping.
abbrev pub kind_of_types : Option Text → Result (Option Text) Code
kind_of_types None = Ok (Some (codes "@id"))
kind_of_types (Some k) = if among k (codes "@id" ∷ codes "@vocab" ∷ []) then Ok (Some k) else Err InvalidTypeMapping

abbrev pub contained : Option Text → Option Shape → Result (Shape × Option Text) Code
contained kind None = Err InvalidContainerMapping
contained kind (Some s) = do
  k ← if s.types then kind_of_types kind else Ok kind
  Ok (s, k)

-- Steps 19.1 to 19.4: the container and the type mapping.
abbrev pub with_container : Option Tree → Option Text → Result (Shape × Option Text) Code
with_container None kind = Ok (no_words, kind)
with_container (Some v) kind = contained kind (container_of v)

-- Step 20: the index mapping.
abbrev pub index_of : Settings → Shape → Option Tree → Result (Option Text) Code
index_of c s None = Ok None
index_of c s (Some (text v)) = do
  _ ← unless (s.index && is_iri (expand_iri c false true v)) InvalidTermDefinition
  Ok (Some v)
index_of c s (Some _) = Err InvalidTermDefinition

-- Step 21: a scoped context is refused as one, whatever its own error is.
abbrev pub scoped_tried : {A : Type 0} → Result A Code → Result (Unit {0}) Code
scoped_tried (Ok a) = Ok tt
scoped_tried (Err e) = Err InvalidScopedContext

-- Step 22: the language mapping, where there is no `@type`.
abbrev pub language_of : Bool → Option Tree → Result (Slot Text) Code
language_of typed None = Ok Absent
language_of typed (Some v) = if typed then Ok Absent else by_value v
  where
    by_value : Tree → Result (Slot Text) Code
    by_value null = Ok Null
    by_value (text t) = Ok (Is t)
    by_value _ = Err InvalidLanguageMapping

-- Step 23: the direction mapping, where there is no `@type`.
abbrev pub side_named : Text → Result Side Code
side_named t = if bytes_eq t (codes "ltr") then Ok Ltr else if bytes_eq t (codes "rtl") then Ok Rtl else Err InvalidBaseDirection

abbrev pub side_of : Bool → Option Tree → Result (Slot Side) Code
side_of typed None = Ok Absent
side_of typed (Some v) = if typed then Ok Absent else by_value v
  where
    by_value : Tree → Result (Slot Side) Code
    by_value null = Ok Null
    by_value (text t) = do
      side ← side_named t
      Ok (Is side)
    by_value _ = Err InvalidBaseDirection

-- Step 24: the nest value.
abbrev pub nest_of : Option Tree → Result (Option Text) Code
nest_of None = Ok None
nest_of (Some (text t)) = do
  _ ← unless (not (is_keyword t) || bytes_eq t (codes "@nest")) InvalidNestValue
  Ok (Some t)
nest_of (Some _) = Err InvalidNestValue

-- Steps 22 to 24.
pub record Tags : Type 0 where
  pub language : Slot Text
  pub side : Slot Side
  pub nest : Option Text

abbrev pub tags_where : Bool → Pairs → Result Tags Code
tags_where typed es = do
  language ← language_of typed (member_at (codes "@language") es)
  side ← side_of typed (member_at (codes "@direction") es)
  nest ← nest_of (member_at (codes "@nest") es)
  Ok (record { language = language; side = side; nest = nest })

abbrev pub tags_of : Pairs → Result Tags Code
tags_of es = tags_where (is_some (member_at (codes "@type") es)) es

-- Step 25: the prefix flag.
abbrev pub flag_of : Option Text → Tree → Result Bool Code
flag_of mapping (truth b) = do
  _ ← unless (not (b && is_some_keyword mapping)) InvalidTermDefinition
  Ok b
flag_of mapping _ = Err InvalidPrefixValue

abbrev pub prefix_of : Text → Option Text → Bool → Option Tree → Result Bool Code
prefix_of t mapping flag None = Ok flag
prefix_of t mapping flag (Some v) = do
  _ ← unless (not (has_colon_or_slash t)) InvalidTermDefinition
  flag_of mapping v

-- Step 26: the entries that a definition may have.
abbrev pub is_known_entry : Text × Tree → Bool
is_known_entry e =
    among e.0 (codes "@id" ∷ codes "@reverse" ∷ codes "@container" ∷ codes "@context" ∷ codes "@direction" ∷ codes "@index" ∷ codes "@language" ∷ codes "@nest" ∷ codes "@prefix" ∷ codes "@protected" ∷ codes "@type" ∷ [])

-- Step 27: a protected definition stays, and may only be repeated, unless protected terms may be overridden.
abbrev pub kept : Bool → Option Definition → Definition → Result Definition Code
kept overrides None d = Ok d
kept overrides (Some p) d =
    if overrides || not p.protected then Ok d
    else if same_but_protected p d then Ok p
    else Err ProtectedTermRedefinition

module _ (scoped : Scoped) (l : Local) where
  -- Step 21: the scoped context is tried.
  abbrev pub context_tried : Context → Option Tree → Result (Unit {0}) Code
  context_tried c None = Ok tt
  context_tried c (Some v) = scoped_tried (scoped c v)

  -- The scoped context's base URL, where there is one.
  abbrev pub base_of : Option Tree → Option Text
  base_of None = None
  base_of (Some v) = l.base

  -- Steps 25 and 26, and the definition with all its settings.
  abbrev pub described : Text → Pairs → Bool → Option Text → Bool → Shape × Option Text → Option Text → Tags → Result Definition Code
  described t es protected mapping flag contents index tags = do
    prefix ← prefix_of t mapping flag (member_at (codes "@prefix") es)
    _ ← unless (list_all is_known_entry es) InvalidTermDefinition
    Ok (record {
      mapping = mapping;
      prefix = prefix;
      protected = protected;
      reverse = false;
      base = base_of (member_at (codes "@context") es);
      local = member_at (codes "@context") es;
      container = contents.0;
      side = tags.side;
      index = index;
      language = tags.language;
      nest = tags.nest;
      kind = contents.1;
    })

  -- Steps 19 to 26: the definition of a term with this value, flag of protection, type mapping, IRI mapping and prefix flag.
  unfoldable pub completed : Text → Pairs → Bool → Option Text → Option Text → Bool → Context → Result Definition Code
  completed t es protected kind mapping flag c = do
    contents ← with_container (member_at (codes "@container") es) kind
    index ← index_of c.current contents.0 (member_at (codes "@index") es)
    _ ← context_tried c (member_at (codes "@context") es)
    tags ← tags_of es
    described t es protected mapping flag contents index tags

  -- Steps 19 to 28. [Ours: where the term is left out, `defined` becomes true, so that a later use of it is no cycle.]
  unfoldable pub finished : Text → Pairs → Bool → Option Text → Option Definition → Mapping → State → Result State Code
  finished t es protected kind previous leaves_out s = Ok (mark t true s)
  finished t es protected kind previous (maps mapping flag) s = do
    d ← completed t es protected kind mapping flag s.context
    e ← kept l.overrides previous d
    Ok (stored t e s)
