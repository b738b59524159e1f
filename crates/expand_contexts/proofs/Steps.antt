-- Steps of the definitions, as the code takes them.
use Rattle.std.proofs.Common.{◌≡◌, ◌-◌, ◌+◌, ℕ, suc, List, [], ◌∷◌, length, slice_get, Bool, true, false, ◌||◌, Option, Some, None, Result, Ok, Err, is_some, refl, sym, ap, ◌∙◌, arith}
use Rattle.std.specs.Prelude.{codes, if◌then◌else◌}
use Rattle.std.specs.Borrow.{Bor}
use Rattle.std.specs.List.{list_any, filter_map}
use Rattle.std.specs.Option.{option_map_or}
use Rattle.std.specs.Ordering.{is_gt}
use Rattle.case_tables.specs.declared.code.Code.{Code}
use Rattle.ld_model.specs.Tree.{Tree, null, truth, whole, one_one, text, array, object, Pairs, member_at, byte_order, trees_of, tree_list-trees_of, same_tree}
use Rattle.ld_tree.specs.declared.value.Tree.{Tree as Value}
use Rattle.ld_tree.specs.View.{view}
use Rattle.ld_model.proofs.SameTree.{same_tree-exact}
use Rattle.ctx_types.specs.Context.{Text, Definition, Settings, Context, definition_at}
use Rattle.ctx_types.specs.Same.{same_option}
use Rattle.ctx_model.specs.Outcome.{◌>>=◌}
use Rattle.expand_model.specs.Scope.{Options, Scope, MapScope, definition_of, expands_to, values_of}
use Rattle.expand_model.specs.Contexts.{by_scoped, scoped_of, in_property, embedded, left, is_left, in_map, text_in, placed, ascending, type_terms, typed_by, typed_by_all, typed_by_entry, typed, last_is_json, is_json, entered}
use Rattle.expand_contexts.specs.Types.{first_type, typing, has_scoped, is_scoped, is_json_text}
use Rattle.expand_contexts.proofs.Carried.{bind_ok, bind_bind}

-- ---- leaving, and scoped contexts
in_map_left : (o : Options) (a : Scope) (l m : Bool) (t : Option Tree) → left l a.context ≡ left m a.context → in_map o a l t ≡ in_map o a m t
unfolding in_map
in_map_left o a l m t same = ap (λ c. in_property o (definition_of a.property a.context) c >>= (λ x. embedded o t x)) same

-- A scalar's context is that of a map that doesn't leave the active one and has no local context.
pub in_map_alone : (o : Options) (a : Scope) → in_property o (definition_of a.property a.context) a.context ≡ in_map o a false None
unfolding in_map
in_map_alone o a = sym (bind_ok (in_property o (definition_of a.property a.context) a.context))

by_none : (o : Options) (p q : Bool) (s : Option (Tree × Option Text)) (c : Context) → is_some s ≡ false → by_scoped o p q s c ≡ Ok c
by_none o p q None c none = refl
by_none o p q (Some s) c none = absurd (cc)

pub without_scoped : (o : Options) (d : Option Definition) (c : Context) → is_some (scoped_of d) ≡ false → in_property o d c ≡ Ok c
unfolding in_property
without_scoped o d c none = by_none o true true (scoped_of d) c none

-- ---- types
entry_is_type : (o : Options) (types : Context) (e : Text × Tree) (c : Context) → expands_to c.current (codes "@type") e.0 ≡ true → typed_by_entry o types e c ≡ typed_by_all o types (type_terms e.1) c
unfolding typed_by_entry
entry_is_type o types e c is = ap (λ (b : Bool). if b then typed_by_all o types (type_terms e.1) c else Ok c) is

entry_is_other : (o : Options) (types : Context) (e : Text × Tree) (c : Context) → expands_to c.current (codes "@type") e.0 ≡ false → typed_by_entry o types e c ≡ Ok c
unfolding typed_by_entry
entry_is_other o types e c is = ap (λ (b : Bool). if b then typed_by_all o types (type_terms e.1) c else Ok c) is

first_here : (c : Settings) (e : Text × Tree) (es : Pairs) → expands_to c (codes "@type") e.0 ≡ true → first_type c (e ∷ es) ≡ Some (e.1, es)
first_here c e es is = ap (λ (b : Bool). if b then Some (e.1, es) else first_type c es) is

first_later : (c : Settings) (e : Text × Tree) (es : Pairs) → expands_to c (codes "@type") e.0 ≡ false → first_type c (e ∷ es) ≡ first_type c es
first_later c e es is = ap (λ (b : Bool). if b then Some (e.1, es) else first_type c es) is

-- A value that was found, and the entries behind it.
abbrev pub with_rest : Pairs → Bor Value → Tree × Pairs
with_rest es t = (view t.now, es)

-- The type-scoped contexts, by the first type.
abbrev typed_from : Options → Context → Option (Tree × Pairs) → Result Context Code
typed_from o types None = Ok types
typed_from o types (Some p) = typed_by_all o types (type_terms p.0) types >>= (λ c. typed o types p.1 c)

typed_is : (o : Options) (types : Context) (es : Pairs) → typed o types es types ≡ typed_from o types (first_type types.current es)
typed_is o types [] = refl
typed_is o types (e ∷ es) = by (expands_to types.current (codes "@type") e.0) refl (typed_is o types es)
  where
    by : (b : Bool) → expands_to types.current (codes "@type") e.0 ≡ b → typed o types es types ≡ typed_from o types (first_type types.current es) → typed o types (e ∷ es) types ≡ typed_from o types (first_type types.current (e ∷ es))
    by true is rest = ap (λ r. r >>= (λ c. typed o types es c)) (entry_is_type o types e types is) ∙ sym (ap (typed_from o types) (first_here types.current e es is))
    by false is rest = ap (λ r. r >>= (λ c. typed o types es c)) (entry_is_other o types e types is) ∙ rest ∙ sym (ap (typed_from o types) (first_later types.current e es is))

-- So does the input type.
abbrev json_from : Settings → Option (Tree × Pairs) → Bool
json_from c None = false
json_from c (Some p) = last_is_json c (values_of p.0)

json_is : (c : Settings) (es : Pairs) → is_json c es ≡ json_from c (first_type c es)
json_is c [] = refl
json_is c (e ∷ es) = by (expands_to c (codes "@type") e.0) refl (json_is c es)
  where
    by : (b : Bool) → expands_to c (codes "@type") e.0 ≡ b → is_json c es ≡ json_from c (first_type c es) → is_json c (e ∷ es) ≡ json_from c (first_type c (e ∷ es))
    by true is rest = ap (λ (b : Bool). if b then last_is_json c (values_of e.1) else is_json c es) is ∙ sym (ap (json_from c) (first_here c e es is))
    by false is rest = ap (λ (b : Bool). if b then last_is_json c (values_of e.1) else is_json c es) is ∙ rest ∙ sym (ap (json_from c) (first_later c e es is))

pub json_first : (c : Settings) (es : Pairs) (f : Option (Tree × Pairs)) → f ≡ first_type c es → is_json c es ≡ json_from c f
json_first c es f is = json_is c es ∙ ap (json_from c) (sym is)

pub no_types : (o : Options) (types : Context) (es : Pairs) → None ≡ first_type types.current es → typing o types es ≡ Ok (types, false)
no_types o types es none =
    ap (λ r. r >>= (λ c. Ok (c, is_json c.current es))) (typed_is o types es ∙ ap (typed_from o types) (sym none)) ∙ ap (λ b. Ok (types, b)) (json_first types.current es None none)

-- What is left behind the first type.
abbrev pub behind : Options → Context → Pairs → Pairs → Context → Result (Context × Bool) Code
behind o types es rest c = typed o types rest c >>= (λ x. Ok (x, is_json x.current es))

pub typing_from : (o : Options) (types : Context) (es : Pairs) (v : Tree) (rest : Pairs) → Some (v, rest) ≡ first_type types.current es → typing o types es ≡ (typed_by_all o types (type_terms v) types >>= behind o types es rest)
typing_from o types es v rest is =
    ap (λ r. r >>= (λ c. Ok (c, is_json c.current es))) (typed_is o types es ∙ ap (typed_from o types) (sym is)) ∙ bind_bind (typed_by_all o types (type_terms v) types) (λ c. typed o types rest c) (λ c. Ok (c, is_json c.current es))

-- ---- types none of which has a scoped context
unscoped : (o : Options) (types : Context) (s : Text) (c : Context) → has_scoped types.current s ≡ false → typed_by o types s c ≡ Ok c
unfolding typed_by
unscoped o types s c none = by_none o false false (scoped_of (definition_at s types.current.terms)) c none

bind_all : (o : Options) (types : Context) (s : Text) (ts : List Text) (c : Context) → has_scoped types.current s ≡ false → typed_by_all o types (s ∷ ts) c ≡ typed_by_all o types ts c
bind_all o types s ts c none = ap (λ r. r >>= (λ x. typed_by_all o types ts x)) (unscoped o types s c none)

unscoped_placed : (o : Options) (types : Context) (s : Text) (ts : List Text) (c : Context) → has_scoped types.current s ≡ false → typed_by_all o types (placed s ts) c ≡ typed_by_all o types ts c
unscoped_placed o types s [] c none = bind_all o types s [] c none
unscoped_placed o types s (t ∷ ts) c none = by (is_gt (byte_order s t)) refl (λ x. unscoped_placed o types s ts x none)
  where
    by : (b : Bool) → is_gt (byte_order s t) ≡ b → ((x : Context) → typed_by_all o types (placed s ts) x ≡ typed_by_all o types ts x) → typed_by_all o types (placed s (t ∷ ts)) c ≡ typed_by_all o types (t ∷ ts) c
    by true is rest = ap (λ (b : Bool). typed_by_all o types (if b then t ∷ placed s ts else s ∷ t ∷ ts) c) is ∙ over (typed_by o types t c)
      where
        over : (r : Result Context Code) → (r >>= (λ x. typed_by_all o types (placed s ts) x)) ≡ (r >>= (λ x. typed_by_all o types ts x))
        over (Ok x) = rest x
        over (Err e) = refl
    by false is rest = ap (λ (b : Bool). typed_by_all o types (if b then t ∷ placed s ts else s ∷ t ∷ ts) c) is ∙ bind_all o types s (t ∷ ts) c none

both_false : (a b : Bool) → (a || b) ≡ false → (a ≡ false) × (b ≡ false)
both_false true b is = absurd (cc)
both_false false b is = (refl, is)

pub none_scoped : (o : Options) (types : Context) (ts : List Tree) (c : Context) → list_any (is_scoped types.current) ts ≡ false → typed_by_all o types (ascending (filter_map text_in ts)) c ≡ Ok c
none_scoped o types [] c none = refl
none_scoped o types (text s ∷ ts) c none =
    let both = both_false (has_scoped types.current s) (list_any (is_scoped types.current) ts) none in
    unscoped_placed o types s (ascending (filter_map text_in ts)) c both.0 ∙ none_scoped o types ts c both.1
none_scoped o types (null ∷ ts) c none = none_scoped o types ts c none
none_scoped o types (truth b ∷ ts) c none = none_scoped o types ts c none
none_scoped o types (whole n ∷ ts) c none = none_scoped o types ts c none
none_scoped o types (one_one ∷ ts) c none = none_scoped o types ts c none
none_scoped o types (array xs ∷ ts) c none = none_scoped o types ts c none
none_scoped o types (object ms ∷ ts) c none = none_scoped o types ts c none

unscoped_value : (o : Options) (types : Context) (v : Tree) → list_any (is_scoped types.current) (values_of v) ≡ false → typed_by_all o types (type_terms v) types ≡ Ok types
unfolding type_terms
unscoped_value o types v none = none_scoped o types (values_of v) types none

-- Where one entry alone tells types, and none of them has a scoped context.
pub lent_typing : (o : Options) (types : Context) (es : Pairs) (v : Tree) (rest : Pairs) (json : Bool) → Some (v, rest) ≡ first_type types.current es → None ≡ first_type types.current rest → list_any (is_scoped types.current) (values_of v) ≡ false → json ≡ last_is_json types.current (values_of v) → typing o types es ≡ Ok (types, json)
lent_typing o types es v rest json first last none is =
    typing_from o types es v rest first
    ∙ ap (λ r. r >>= behind o types es rest) (unscoped_value o types v none)
    ∙ ap (λ r. r >>= (λ x. Ok (x, is_json x.current es))) (typed_is o types rest ∙ ap (typed_from o types) (sym last))
    ∙ ap (λ b. Ok (types, b)) (json_first types.current es (Some (v, rest)) first ∙ sym is)

-- ---- the last value
text_alone : (c : Settings) (t : Tree) → last_is_json c (t ∷ []) ≡ is_json_text c t
text_alone c (text s) = refl
text_alone c t = refl

pub json_of_last : (c : Settings) (ts : List Tree) → last_is_json c ts ≡ option_map_or (is_json_text c) (slice_get ts (length ts - 1)) false
json_of_last c [] = refl
json_of_last c (t ∷ []) = text_alone c t
json_of_last c (t ∷ u ∷ ts) =
    let at : slice_get (t ∷ u ∷ ts) (length (t ∷ u ∷ ts) - 1) ≡ slice_get (u ∷ ts) (length (u ∷ ts) - 1) = let less : length (t ∷ u ∷ ts) - 1 ≡ (length (u ∷ ts) - 1) + 1 = omega arith in ap (slice_get (t ∷ u ∷ ts)) less ∙ next (length (u ∷ ts) - 1) in
    json_of_last c (u ∷ ts) ∙ ap (λ o. option_map_or (is_json_text c) o false) (sym at)
  where
    next : (n : ℕ) → slice_get (t ∷ u ∷ ts) (n + 1) ≡ slice_get (u ∷ ts) n
    next n = let more : n + 1 ≡ suc n = omega arith in ap (slice_get (t ∷ u ∷ ts)) more

-- ---- a map
abbrev pub map_scope : Scope → Context → Context × Bool → MapScope
map_scope a types t = record { context = t.0; types = types; json = t.1; property = a.property }

-- From the type-scoped context on.
abbrev pub with_types : Options → Pairs → Scope → Context → Result MapScope Code
with_types o es a types = typing o types es >>= (λ t. Ok (map_scope a types t))

pub entered_by : (o : Options) (es : Pairs) (a : Scope) (l : Bool) (local : Option Tree) → left l a.context ≡ left (is_left es a) a.context → local ≡ member_at (codes "@context") es → entered o es a ≡ (in_map o a l local >>= with_types o es a)
unfolding entered
entered_by o es a l local same at =
    ap (λ r. r >>= (λ types. typed o types es types >>= (λ c. Ok (map_scope a types (c, is_json c.current es))))) (sym (ap (in_map o a l) at ∙ in_map_left o a l (is_left es a) (member_at (codes "@context") es) same))
    ∙ over (in_map o a l local)
  where
    over : (r : Result Context Code) → (r >>= (λ types. typed o types es types >>= (λ c. Ok (map_scope a types (c, is_json c.current es))))) ≡ (r >>= with_types o es a)
    over (Ok types) = sym (bind_bind (typed o types es types) (λ c. Ok (c, is_json c.current es)) (λ t. Ok (map_scope a types t)))
    over (Err e) = refl

-- A map that makes no context.
pub lent_entered : (o : Options) (es : Pairs) (a : Scope) (l json : Bool) → left l a.context ≡ left (is_left es a) a.context → l ≡ false → is_some (scoped_of (definition_of a.property a.context)) ≡ false → None ≡ member_at (codes "@context") es → typing o a.context es ≡ Ok (a.context, json) → entered o es a ≡ Ok (map_scope a a.context (a.context, json))
lent_entered o es a l json same stays unscoped local types =
    entered_by o es a false None (ap (λ b. left b a.context) (sym stays) ∙ same) local
    ∙ ap (λ r. r >>= with_types o es a) (sym (in_map_alone o a) ∙ without_scoped o (definition_of a.property a.context) a.context unscoped)
    ∙ ap (λ r. r >>= (λ t. Ok (map_scope a a.context t))) types

-- The last of the values of an array.
pub json_of_items : (c : Settings) (v : Tree) (ts : List Tree) (o : Option Tree) → v ≡ array (trees_of ts) → o ≡ slice_get ts (length ts - 1) → last_is_json c (values_of v) ≡ option_map_or (is_json_text c) o false
json_of_items c v ts o is at =
    ap (λ v. last_is_json c (values_of v)) is ∙ ap (last_is_json c) (tree_list-trees_of ts) ∙ json_of_last c ts ∙ ap (λ o. option_map_or (is_json_text c) o false) (sym at)

-- ---- the memo
pub same_local-exact : (a b : Option Tree) → same_option same_tree a b ≡ true → a ≡ b
same_local-exact None None same = refl
same_local-exact (Some a) (Some b) same = ap Some (same_tree-exact a b same)
same_local-exact None (Some b) same = absurd (cc)
same_local-exact (Some a) None same = absurd (cc)

pub terms_of_items : (v : Tree) (ts : List Tree) → v ≡ array (trees_of ts) → type_terms v ≡ ascending (filter_map text_in ts)
unfolding type_terms
terms_of_items v ts is = ap (λ v. ascending (filter_map text_in (values_of v))) is ∙ ap (λ ts. ascending (filter_map text_in ts)) (tree_list-trees_of ts)
