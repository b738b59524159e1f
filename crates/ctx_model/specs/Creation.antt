-- Term creation (JSON-LD 1.1 API, section 4.2.2). The numbers are those of its steps. A part takes the calls that it makes
-- as parameters; `create_within` ties them.
use Rattle.std.specs.Prelude.{ℕ, zero, suc, Bool, true, false, ◌||◌, ◌&&◌, not, [], Option, Some, None, Result, Ok, Err, codes, is_none, if◌then◌else◌}
use Rattle.std.specs.Str.{bytes_eq}
use Rattle.ld_model.specs.Tree.{Tree, null, text, Pairs, member_at}
use Rattle.case_tables.specs.declared.code.Code.{Code}
use Rattle.case_tables.specs.declared.code.Code.TheVariants.{CyclicIriMapping, InvalidIriMapping, InvalidKeywordAlias, InvalidReverseProperty, InvalidTermDefinition, InvalidTypeMapping, KeywordRedefinition}
use Rattle.ctx_types.specs.Context.{Text, Definition, definition_at}
use Rattle.ctx_types.specs.Expansion.{is_keyword, has_keyword_form, colon_parts, is_whole}
use Rattle.ctx_model.specs.Outcome.{◌>>=◌, unless}
use Rattle.ctx_model.specs.Words.{is_iri_or_blank, is_some_keyword, same_text, has_slash, has_inner_colon}
use Rattle.ctx_model.specs.State.{State, Local, Create, Scoped, mark_of, mark, stored, without_term}
use Rattle.ctx_model.specs.LocalExpansion.{created, expand_iri}
use Rattle.ctx_model.specs.Definition.{may_define_type, entries_of, is_definition, is_simple, protected_by, may_be_kind, reverse_container, can_be_prefix, Mapping, maps, leaves_out, mapped_by_prefix, without_colon, reverse_definition, finished}

-- What the first steps come to: nothing more is to be done, or the term is defined anew, and had this definition.
pub data Start : Type 0 where
  over : Start
  goes_on : Option Definition → Start

-- Steps 6 to 9: the previous definition is removed.
abbrev pub removed : Text → Tree → State → Result (Start × State) Code
removed t v s = do
  _ ← unless (is_definition v) InvalidTermDefinition
  Ok (goes_on (definition_at t s.context.current.terms), without_term t s)

-- Steps 4 and 5: keywords are not defined, but for `@type`, and a term in the form of a keyword is left out. [Ours: `defined`
-- becomes true for it, so that a later use of it is no cycle. The keywords of framing are no keywords here: they have the form.]
abbrev pub allowed : Text → Tree → State → Result (Start × State) Code
allowed t v s =
    if bytes_eq t (codes "@type") then (if may_define_type v then removed t v s else Err KeywordRedefinition)
    else if is_keyword t then Err KeywordRedefinition
    else if has_keyword_form t then Ok (over, mark t true s)
    else removed t v s

-- Steps 2 to 9.
unfoldable pub started : Text → Tree → State → Result (Start × State) Code
started t v s = if bytes_eq t [] then Err InvalidTermDefinition else allowed t v (mark t false s)

-- Step 13.1: no entry that may not be there stands beside `@reverse`.
abbrev pub is_reverse_alone : Pairs → Bool
is_reverse_alone es = is_none (member_at (codes "@id") es) && is_none (member_at (codes "@nest") es)

-- Step 14: the `@id` that differs from the term.
abbrev pub other_id : Text → Option Tree → Option Tree
other_id t None = None
other_id t (Some (text v)) = if bytes_eq v t then None else Some (text v)
other_id t (Some v) = Some v

-- Step 14.2.2: an `@id` in the form of a keyword that is none.
abbrev pub is_reserved : Text → Bool
is_reserved v = has_keyword_form v && not (is_keyword v)

-- Step 14.2.4: the term has a slash, or a colon that is neither its first nor its last character.
abbrev pub is_compared : Text → Bool
is_compared t = has_slash t || has_inner_colon t

module _ (create : Create) (scoped : Scoped) (l : Local) where
  -- The text, expanded with the vocabulary and the local context.
  abbrev pub expanded : Text → State → Result (Option Text × State) Code
  expanded t s = expand_iri create l.entries false true t s

  -- Step 12: the type mapping.
  abbrev pub kind_named : Text → State → Result (Option Text × State) Code
  kind_named t s = do
    (iri, s₁) ← expanded t s
    _ ← unless (may_be_kind iri) InvalidTypeMapping
    Ok (iri, s₁)

  abbrev pub kind_valued : Tree → State → Result (Option Text × State) Code
  kind_valued (text t) s = kind_named t s
  kind_valued _ s = Err InvalidTypeMapping

  abbrev pub kind_of : Option Tree → State → Result (Option Text × State) Code
  kind_of None s = Ok (None, s)
  kind_of (Some v) s = kind_valued v s

  -- Steps 13.4 to 13.7: a reverse property that is not in the form of a keyword.
  abbrev pub reverse_named : Text → Text → Pairs → Bool → Option Text → State → Result State Code
  reverse_named t v es protected kind s = do
    (iri, s₁) ← expanded v s
    _ ← unless (is_iri_or_blank iri) InvalidIriMapping
    container ← reverse_container (member_at (codes "@container") es)
    Ok (stored t (reverse_definition protected kind iri container) s₁)

  -- Steps 13.2 and 13.3. [Ours: `defined` becomes true where the term is left out, so that a later use of it is no cycle.]
  abbrev pub reverse_valued : Text → Tree → Pairs → Bool → Option Text → State → Result State Code
  reverse_valued t (text v) es protected kind s =
      elim (has_keyword_form v) [ true ↦ Ok (mark t true s) | false ↦ reverse_named t v es protected kind s ]
  reverse_valued t _ es protected kind s = Err InvalidIriMapping

  -- Step 13.
  unfoldable pub reverse_created : Text → Tree → Pairs → Bool → Option Text → State → Result State Code
  reverse_created t v es protected kind s = do
    _ ← unless (is_reverse_alone es) InvalidReverseProperty
    reverse_valued t v es protected kind s

  -- Step 14.2.4: a term in the form of an IRI, or with a slash, has to expand to its mapping.
  abbrev pub own_agrees : Text → Option Text → State → Result State Code
  own_agrees t iri s = do
    (own, s₁) ← expanded t s
    _ ← unless (same_text own iri) InvalidIriMapping
    Ok s₁

  unfoldable pub agreeing : Text → Option Text → State → Result State Code
  agreeing t iri s = elim (is_compared t) [ true ↦ own_agrees t iri (mark t true s) | false ↦ Ok s ]

  -- Steps 14.2.3 to 14.2.5.
  abbrev pub id_named : Text → Bool → Text → State → Result (Mapping × State) Code
  id_named t simple v s = do
    (iri, s₁) ← expanded v s
    _ ← unless (is_some_keyword iri || is_iri_or_blank iri) InvalidIriMapping
    _ ← unless (not (same_text iri (Some (codes "@context")))) InvalidKeywordAlias
    s₂ ← agreeing t iri s₁
    Ok (maps iri (can_be_prefix simple t iri), s₂)

  -- Step 14, for an `@id` that differs from the term.
  unfoldable pub id_mapping : Text → Bool → Tree → State → Result (Mapping × State) Code
  id_mapping t simple null s = Ok (maps None false, s)
  id_mapping t simple (text v) s =
      elim (is_reserved v) [ true ↦ Ok (leaves_out, s) | false ↦ id_named t simple v s ]
  id_mapping t simple _ s = Err InvalidIriMapping

  -- Step 15: the term is a compact IRI, a blank node identifier or an IRI. [Ours: it is split at its first colon, and taken whole
  -- behind `_` and before `//`, as IRI expansion does it: the standard doesn't say here what a compact IRI is.]
  abbrev pub colon_mapping : Text → Text × Text → State → Result (Mapping × State) Code
  colon_mapping t p s =
      elim (is_whole p) [
        | true ↦ Ok (maps (Some t) false, s)
        | false ↦ do
          s₁ ← created create l.entries p.0 s
          Ok (maps (Some (mapped_by_prefix t p.1 (definition_at p.0 s₁.context.current.terms))) false, s₁)
      ]

  -- Steps 16 to 18.
  abbrev pub with_state : Result Mapping Code → State → Result (Mapping × State) Code
  with_state (Ok m) s = Ok (m, s)
  with_state (Err e) s = Err e

  abbrev pub parts_mapping : Text → Option (Text × Text) → State → Result (Mapping × State) Code
  parts_mapping t None s = with_state (without_colon s.context.current t) s
  parts_mapping t (Some p) s = colon_mapping t p s

  -- Steps 15 to 18: the IRI mapping that the term itself gives.
  unfoldable pub term_mapping : Text → State → Result (Mapping × State) Code
  term_mapping t s = parts_mapping t (colon_parts t) s

  -- Steps 14 to 18: the IRI mapping and the prefix flag.
  unfoldable pub mapping_of : Text → Bool → Option Tree → State → Result (Mapping × State) Code
  mapping_of t simple (Some v) s = id_mapping t simple v s
  mapping_of t simple None s = term_mapping t s

  -- The same, for a term with this value.
  abbrev pub mapping_for : Text → Tree → State → Result (Mapping × State) Code
  mapping_for t v s = mapping_of t (is_simple v) (other_id t (member_at (codes "@id") (entries_of v))) s

  -- Steps 14 to 28.
  abbrev pub forward_created : Text → Tree → Bool → Option Text → Option Definition → State → Result State Code
  forward_created t v protected kind previous s = do
    (mapping, s₁) ← mapping_for t v s
    finished scoped l t (entries_of v) protected kind previous mapping s₁

  -- Steps 13 to 28.
  unfoldable pub directed : Text → Tree → Option Tree → Bool → Option Text → Option Definition → State → Result State Code
  directed t v (Some r) protected kind previous s = reverse_created t r (entries_of v) protected kind s
  directed t v None protected kind previous s = forward_created t v protected kind previous s

  -- Steps 10 to 28.
  unfoldable pub defined_by : Text → Tree → Option Definition → State → Result State Code
  defined_by t v previous s = do
    protected ← protected_by l.protected (member_at (codes "@protected") (entries_of v))
    (kind, s₁) ← kind_of (member_at (codes "@type") (entries_of v)) s
    directed t v (member_at (codes "@reverse") (entries_of v)) protected kind previous s₁

  -- What stands behind the first steps.
  abbrev pub gone_on : Text → Tree → Start × State → Result State Code
  gone_on t v (over, s) = Ok s
  gone_on t v (goes_on previous, s) = defined_by t v previous s

  -- Steps 2 to 28.
  unfoldable pub create_new : Text → Tree → State → Result State Code
  create_new t v s = do
    r ← started t v s
    gone_on t v r

-- Step 1: what `defined` says of the term.
abbrev pub unless_defined : Option Bool → State → Result State Code → Result State Code
unless_defined (Some true) s r = Ok s
unless_defined (Some false) s r = Err CyclicIriMapping
unless_defined None s r = r

-- Term creation, where at most `n` keys of the local context are not yet in `defined`. With no key left, step 1 has answered.
abbrev pub create_within : Scoped → Local → ℕ → Create
create_within scoped l zero t v s = unless_defined (mark_of t s) s (Err CyclicIriMapping)
create_within scoped l (suc n) t v s =
    elim (mark_of t s) [
      | Some b ↦ unless_defined (Some b) s (Ok s)
      | None ↦ create_new (λ t v s. create_within scoped l n t v s) scoped l t v s
    ]
