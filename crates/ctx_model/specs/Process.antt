-- Context processing (JSON-LD 1.1 API, section 4.1.2). The numbers are those of its steps. A part takes the calls that it
-- makes as parameters; `process_within` ties them by the two limits that end the recursion.
use Rattle.std.specs.Prelude.{ℕ, zero, suc, Bool, true, false, ◌||◌, ◌&&◌, not, List, [], ◌∷◌, ◌++◌, length, Option, Some, None, Result, Ok, Err, codes, is_none, if◌then◌else◌}
use Rattle.std.specs.Map.{lookup}
use Rattle.std.specs.BTreeMap.{is_at}
use Rattle.std.specs.Option.{option_map_or}
use Rattle.std.specs.declared.cmp.Ordering.TheVariants.{Less, Equal, Greater}
use Rattle.ld_model.specs.Tree.{Tree, null, truth, one_one, text, array, object, Pairs, tree_list, member_list, member_at, byte_order, is_empty}
use Rattle.ld_model.specs.Iri.{has_scheme}
use Rattle.iri_ref.specs.Resolve.{resolved}
use Rattle.case_tables.specs.declared.code.Code.{Code}
use Rattle.case_tables.specs.declared.code.Code.TheVariants.{ContextOverflow, InvalidBaseDirection, InvalidBaseIri, InvalidContextEntry, InvalidContextNullification, InvalidDefaultLanguage, InvalidImportValue, InvalidLocalContext, InvalidPropagateValue, InvalidRemoteContext, InvalidScopedContext, InvalidVersionValue, InvalidVocabMapping, LoadingRemoteContextFailed}
use Rattle.ctx_types.specs.declared.definition.Side.{Side}
use Rattle.ctx_types.specs.Context.{Text, Context, initial, has_protected}
use Rattle.ctx_types.specs.Expansion.{expand_iri}
use Rattle.ctx_store.specs.Stored.{Contexts}
use Rattle.ctx_model.specs.Outcome.{◌>>=◌, unless}
use Rattle.ctx_model.specs.Words.{among, is_iri_or_blank, is_absent_or_truth, is_true}
use Rattle.ctx_model.specs.State.{State, Local, Create}
use Rattle.ctx_model.specs.Definition.{side_named}
use Rattle.ctx_model.specs.Creation.{create_within}

-- What context processing takes beside the local context: the active context, the base URL, the remote contexts in the
-- chain, and the three flags.
pub record Ask : Type 0 where
  pub active : Context
  pub base : Option Text
  pub remotes : List Text
  pub overrides : Bool
  pub propagates : Bool
  pub validates : Bool

-- A call of context processing.
abbrev pub Process : Type 0
Process = Ask → Tree → Result Context Code

-- A call of it for a remote context, whose loading came to this.
abbrev pub Remote : Type 0
Remote = Ask → Result Tree Code → Result Context Code

-- Step 2: a truth value at `@propagate` in the local context itself. [Ours: that of an import is not looked at here, since an
-- import is merged in a later step; there its type is tested.]
abbrev pub propagates_by : Bool → Option Tree → Bool
propagates_by p (Some (truth b)) = b
propagates_by p _ = p

abbrev pub propagates_in : Bool → Tree → Bool
propagates_in p (object ms) = propagates_by p (member_at (codes "@propagate") (member_list ms))
propagates_in p _ = p

-- Step 3: a context that does not propagate remembers the active one.
abbrev pub with_previous : Bool → Context → Context
with_previous propagates c = if propagates || not (is_empty c.earlier) then c else record c { earlier = c.current ∷ [] }

-- Step 4: a local context that is no array is one item.
abbrev pub items_of : Tree → List Tree
items_of (array ts) = tree_list ts
items_of t = t ∷ []

-- Step 5.1: null. [Ours: protected terms are looked for in the context that was handed in.]
abbrev pub nullified : Bool → Ask → Context → Result Context Code
nullified propagates ask c = do
  _ ← unless (ask.overrides || not (has_protected ask.active.current.terms)) InvalidContextNullification
  Ok (record (initial ask.active.current.original) { earlier = if propagates then [] else c.current ∷ c.earlier })

-- A text, resolved against a base, where there is one.
abbrev pub resolved_by : Option Text → Text → Text
resolved_by base t = option_map_or (λ b. resolved b t) base t

-- The file of an IRI.
abbrev pub file_of : Option (Option Tree) → Result Tree Code
file_of (Some (Some t)) = Ok t
file_of _ = Err LoadingRemoteContextFailed

-- Steps 5.2.4 and 5.2.5: the tree behind an IRI. [Ours: a context is loaded from the store alone, and by an IRI with a scheme.]
abbrev pub dereferenced : Contexts → Text → Result Tree Code
dereferenced store iri = if has_scheme iri then file_of (lookup (is_at (byte_order iri)) store) else Err LoadingRemoteContextFailed

-- Step 5.2.5.2: its `@context`.
abbrev pub given_context : Option Tree → Result Tree Code
given_context None = Err InvalidRemoteContext
given_context (Some t) = Ok t

abbrev pub context_entry : Tree → Result Tree Code
context_entry (object ms) = given_context (member_at (codes "@context") (member_list ms))
context_entry _ = Err InvalidRemoteContext

abbrev pub loaded : Contexts → Text → Result Tree Code
loaded store iri = do
  file ← dereferenced store iri
  context_entry file

-- Step 5.5: `@version` is absent or 1.1. [Ours: that of an import is not looked at, since an import is merged in a later step.]
abbrev pub is_known_version : Option Tree → Bool
is_known_version None = true
is_known_version (Some one_one) = true
is_known_version (Some _) = false

-- Steps 5.6.2 to 5.6.7: `@import`. Its context is a map, and has no `@import` of its own.
abbrev pub without_import : Pairs → Result Pairs Code
without_import es = do
  _ ← unless (is_none (member_at (codes "@import") es)) InvalidContextEntry
  Ok es

abbrev pub importable : Tree → Result Pairs Code
importable (object ms) = without_import (member_list ms)
importable _ = Err InvalidRemoteContext

abbrev pub imported : Contexts → Option Text → Option Tree → Result Pairs Code
imported store base None = Ok []
imported store base (Some (text t)) = do
  context ← loaded store (resolved_by base t)
  importable context
imported store base (Some _) = Err InvalidImportValue

-- Step 5.6.8: the imported map with the item's own entries in place of equal keys. Both are in ascending order.
abbrev pub merged : Pairs → Pairs → Pairs
merged [] imports = imports
merged (e ∷ es) imports = placed (λ is. merged es is) imports
  where
    placed : (Pairs → Pairs) → Pairs → Pairs
    placed rest [] = e ∷ rest []
    placed rest (i ∷ is) =
        elim (byte_order e.0 i.0) [ Less ↦ e ∷ rest (i ∷ is) | Equal ↦ e ∷ rest is | Greater ↦ i ∷ placed rest is ]

abbrev pub with_base : Option Text → Context → Context
with_base b c = record c { current = record c.current { base = b } }

-- Step 5.7: `@base`, where no remote context is in the chain.
abbrev pub new_base : Text → Option Text → Result Text Code
new_base t base = if has_scheme t then Ok t else option_map_or (λ b. Ok (resolved b t)) base (Err InvalidBaseIri)

abbrev pub based_by : Text → Context → Result Context Code
based_by t c = do
  b ← new_base t c.current.base
  Ok (with_base (Some b) c)

abbrev pub based_on : Tree → Context → Result Context Code
based_on null c = Ok (with_base None c)
based_on (text t) c = based_by t c
based_on _ c = Err InvalidBaseIri

abbrev pub based : List Text → Option Tree → Context → Result Context Code
based [] (Some v) c = based_on v c
based _ _ c = Ok c

-- Step 5.8: `@vocab`. [Ours: the text is expanded relative to the document, too.]
abbrev pub with_vocab : Option Text → Context → Context
with_vocab v c = record c { current = record c.current { vocab = v } }

abbrev pub vocab_named : Option Text → Context → Result Context Code
vocab_named iri c = if is_iri_or_blank iri then Ok (with_vocab iri c) else Err InvalidVocabMapping

abbrev pub vocab_set : Option Tree → Context → Result Context Code
vocab_set None c = Ok c
vocab_set (Some null) c = Ok (with_vocab None c)
vocab_set (Some (text t)) c = vocab_named (expand_iri c.current true true t) c
vocab_set (Some _) c = Err InvalidVocabMapping

-- Step 5.9: `@language`.
abbrev pub with_language : Option Text → Context → Context
with_language v c = record c { current = record c.current { language = v } }

abbrev pub language_set : Option Tree → Context → Result Context Code
language_set None c = Ok c
language_set (Some null) c = Ok (with_language None c)
language_set (Some (text t)) c = Ok (with_language (Some t) c)
language_set (Some _) c = Err InvalidDefaultLanguage

-- Step 5.10: `@direction`.
abbrev pub with_side : Option Side → Context → Context
with_side v c = record c { current = record c.current { side = v } }

abbrev pub side_set : Option Tree → Context → Result Context Code
side_set None c = Ok c
side_set (Some null) c = Ok (with_side None c)
side_set (Some (text t)) c = do
  side ← side_named t
  Ok (with_side (Some side) c)
side_set (Some _) c = Err InvalidBaseDirection

-- Steps 5.7 to 5.11: the settings of a map, and the test of its `@propagate`.
unfoldable pub settings_taken : List Text → Pairs → Context → Result Context Code
settings_taken remotes es c = do
  c₁ ← based remotes (member_at (codes "@base") es) c
  c₂ ← vocab_set (member_at (codes "@vocab") es) c₁
  c₃ ← language_set (member_at (codes "@language") es) c₂
  c₄ ← side_set (member_at (codes "@direction") es) c₃
  _ ← unless (is_absent_or_truth (member_at (codes "@propagate") es)) InvalidPropagateValue
  Ok c₄

-- Step 5.13: the keys that define terms.
abbrev pub is_term_key : Text → Bool
is_term_key k =
    not (among k (codes "@base" ∷ codes "@direction" ∷ codes "@import" ∷ codes "@language" ∷ codes "@propagate" ∷ codes "@protected" ∷ codes "@version" ∷ codes "@vocab" ∷ []))

abbrev pub entry_created : Create → Text × Tree → State → Result State Code
entry_created create e s = if is_term_key e.0 then create e.0 e.1 s else Ok s

-- [Ours: entries are taken in the order of their keys' bytes. The standard names no order, and the first error depends on it.]
abbrev pub terms_created : Create → Pairs → State → Result State Code
terms_created create [] s = Ok s
terms_created create (e ∷ es) s = do
  s₁ ← entry_created create e s
  terms_created create es s₁

-- Step 5.13: what is handed to term creation. [Ours: a value at `@protected` that is no truth value counts as false, since the
-- standard tests it in a term alone.]
abbrev pub local_of : Ask → Pairs → Local
local_of ask es = record { entries = es; base = ask.base; protected = is_true (member_at (codes "@protected") es); overrides = ask.overrides }

-- How a scoped context is tried (section 4.2.2, step 21), and how a remote one is processed (step 5.2.6).
abbrev pub scoped_ask : Ask → Context → Ask
scoped_ask ask c = record { active = c; base = ask.base; remotes = ask.remotes; overrides = true; propagates = true; validates = false }

abbrev pub remote_ask : Ask → Text → Context → Ask
remote_ask ask iri c = record { active = c; base = Some iri; remotes = ask.remotes ++ iri ∷ []; overrides = false; propagates = true; validates = ask.validates }

module _ (store : Contexts) where
  -- Step 5.2: a text, the IRI of a remote context. [Ours: an item begins from the remote contexts that were handed in.]
  unfoldable pub remote_taken : Remote → Ask → Text → Context → Result Context Code
  remote_taken remote ask iri c =
      elim (not ask.validates && among iri ask.remotes) [ true ↦ Ok c | false ↦ remote (remote_ask ask iri c) (loaded store iri) ]

  -- Steps 5.12 and 5.13: the terms are created.
  unfoldable pub terms_taken : Process → Ask → Pairs → Context → Result Context Code
  terms_taken scoped ask es c = do
    s ← terms_created (λ t v s. create_within (λ c v. scoped (scoped_ask ask c) v) (local_of ask es) (length es) t v s) es (record { context = c; defined = [] })
    Ok s.context

  -- Steps 5.4 to 5.13: a map.
  unfoldable pub map_taken : Process → Ask → Pairs → Context → Result Context Code
  map_taken scoped ask own c = do
    _ ← unless (is_known_version (member_at (codes "@version") own)) InvalidVersionValue
    imports ← imported store ask.base (member_at (codes "@import") own)
    c₁ ← settings_taken ask.remotes (merged own imports) c
    terms_taken scoped ask (merged own imports) c₁

  -- Step 5, for one item.
  unfoldable pub item_taken : Remote → Process → Bool → Ask → Tree → Context → Result Context Code
  item_taken remote scoped propagates ask null c = nullified propagates ask c
  item_taken remote scoped propagates ask (text t) c = remote_taken remote ask (resolved_by ask.base t) c
  item_taken remote scoped propagates ask (object ms) c = map_taken scoped ask (member_list ms) c
  item_taken remote scoped propagates ask _ c = Err InvalidLocalContext

  abbrev pub items_taken : Remote → Process → Bool → Ask → List Tree → Context → Result Context Code
  items_taken remote scoped propagates ask [] c = Ok c
  items_taken remote scoped propagates ask (t ∷ ts) c = do
    c₁ ← item_taken remote scoped propagates ask t c
    items_taken remote scoped propagates ask ts c₁

  -- Steps 1 to 6: context processing, given how remote and scoped contexts are processed.
  unfoldable pub processed : Remote → Process → Process
  processed remote scoped ask local =
      items_taken remote scoped (propagates_in ask.propagates local) ask (items_of local) (with_previous (propagates_in ask.propagates local) ask.active)

  -- The first limit: with 32 remote contexts in the chain, another is `context overflow`, before it is loaded. [Our number.]
  abbrev pub overflows : Remote
  overflows ask outcome = Err ContextOverflow

  abbrev pub goes_into : Process → Remote
  goes_into process ask outcome = do
    t ← outcome
    process ask t

  -- The second limit: with 128 scoped contexts under way, another is `invalid scoped context`. [Our number.]
  abbrev pub too_deep : Process
  too_deep ask local = Err InvalidScopedContext

  -- At most `s` more scoped contexts under way, where at most as many remote ones follow as `remote` takes.
  abbrev pub scoped_within : (ℕ → Remote) → ℕ → Process
  scoped_within remote zero ask local = processed (λ a o. remote zero a o) too_deep ask local
  scoped_within remote (suc s) ask local = processed (λ a o. remote (suc s) a o) (λ a t. scoped_within remote s a t) ask local

  -- And at most `r` more remote contexts in the chain.
  abbrev pub process_within : ℕ → ℕ → Process
  process_within zero s ask local = scoped_within (λ n a o. overflows a o) s ask local
  process_within (suc r) s ask local = scoped_within (λ n a o. goes_into (λ b t. process_within r n b t) a o) s ask local

  -- Context processing as a whole, with no remote context in the chain yet.
  unfoldable pub process : Process
  process ask local = process_within 32 128 ask local
