-- Keywords among the names of entries, texts of two parts, and maps whose keys expand to a word.
use Rattle.std.proofs.Common.{◌≡◌, ℕ, List, [], ◌∷◌, ◌++◌, length, slice_get, Bool, true, false, ◌||◌, Option, Some, None, refl, sym, ap, ◌∙◌, arith}
use Rattle.std.specs.Prelude.{IfSome, codes, is_some, if◌then◌else◌}
use Rattle.std.specs.List.{list_any}
use Rattle.std.specs.Bool.{one_answer}
use Rattle.std.specs.Option.{option_map, option_map_or, option_and_then, option_or, unwrap_or}
use Rattle.std.specs.Str.{bytes_eq}
use Rattle.std.proofs.lemmas.List.{append_cancel_left}
use Rattle.std.proofs.lemmas.Slice.Eq.{bytes_eq-Decides}
use Rattle.case_tables.specs.Keyword.{keyword_name}
use Rattle.case_tables.specs.declared.keyword.Keyword.{Keyword}
use Rattle.case_tables.specs.declared.keyword.Keyword.TheVariants.{Base, Context}
use Rattle.ld_model.specs.Tree.{Tree, Pairs}
use Rattle.ld_model.specs.Iri.{has_scheme}
use Rattle.ld_model.proofs.Puts.{bytes_eq-exact}
use Rattle.ctx_types.specs.Context.{Text, Terms, Settings, definition_at}
use Rattle.ctx_types.specs.Expansion.{keywords, is_keyword, has_keyword_form, by_definition, colon_parts, is_whole, by_prefix, by_form, as_iri, expand_iri}
use Rattle.expand_model.specs.declared.Name.{Name}
use Rattle.expand_model.specs.declared.Name.TheVariants as name
use Rattle.expand_model.specs.Contexts.{is_alone}
use Rattle.expand_model.specs.Entries.{word_among, name_as, name_by, name_of}
use Rattle.expand_model.specs.Scope.{expands_to}

name_is_among : (k : Keyword) → word_among (keyword_name k) keywords ≡ Some k
name_is_among Base = refl
name_is_among k = refl

none_among : (t : Text) (ks : List Keyword) → ((k : Keyword) → t ≡ keyword_name k → ⊥) → word_among t ks ≡ None
none_among t [] differs = refl
none_among t (k ∷ ks) differs = step (bytes_eq t (keyword_name k)) refl (none_among t ks differs)
  where
    step : (b : Bool) → bytes_eq t (keyword_name k) ≡ b → word_among t ks ≡ None → word_among t (k ∷ ks) ≡ None
    step true is rest = absurd (differs k (bytes_eq-exact t (keyword_name k) is))
    step false is rest = rw is rest

found_among : (t : Text) (r : Option Keyword) → ((k : Keyword) → t ≡ keyword_name k → r ≡ Some k) → IfSome r (λ k. t ≡ keyword_name k) → word_among t keywords ≡ r
found_among t None listed named = none_among t keywords (λ k is. let found : None ≡ Some k = listed k is in absurd (cc))
found_among t (Some k) listed named = ap (λ t. word_among t keywords) named ∙ name_is_among k

-- A search by name gives the name of the entry.
pub name_found : (iri t : Text) (r : Option Keyword) → t ≡ iri → ((k : Keyword) → t ≡ keyword_name k → r ≡ Some k) → IfSome r (λ k. t ≡ keyword_name k) → name_as (word_among iri keywords) iri ≡ name_as r iri
name_found iri t r same listed named =
    ap (λ x. name_as (word_among x keywords) iri) (sym same) ∙ ap (λ o. name_as o iri) (found_among t r listed named)

-- A text that begins with the first part is both parts where what is left of it is the second.
pub joined_by : (front rest tail word : List ℕ) → word ≡ front ++ tail → bytes_eq tail rest ≡ bytes_eq (front ++ rest) word
joined_by front rest tail word is =
    one_answer {P = tail ≡ rest} (bytes_eq tail rest) (bytes_eq (front ++ rest) word) (bytes_eq-Decides tail rest) (λ same. sym (append_cancel_left front rest tail (bytes_eq-exact (front ++ rest) word same ∙ is)), λ e. (bytes_eq-Decides (front ++ rest) word).1 (ap (λ x. front ++ x) (sym e) ∙ sym is))

-- A map with one entry.
pub alone_is : (c : Settings) (word k : Text) (t : Tree) (es : Pairs) → length es ≡ 1 → Some (k, t) ≡ slice_get es 0 → is_alone c word es ≡ expands_to c word k
alone_is c word k t [] one is = absurd (omega arith)
alone_is c word k t (e ∷ []) one is = sym (ap (λ o. option_map_or (λ (m : Text × Tree). expands_to c word m.0) o false) is)
alone_is c word k t (e ∷ f ∷ es) one is = absurd (omega arith)

-- ---- texts of a keyword's form
name_has_form : (k : Keyword) → has_keyword_form (keyword_name k) ≡ true
name_has_form Base = refl
name_has_form k = refl

named_has_form : (t : Text) (ks : List Keyword) → list_any (λ k. bytes_eq t (keyword_name k)) ks ≡ true → has_keyword_form t ≡ true
named_has_form t [] is = absurd (cc)
named_has_form t (k ∷ ks) is = step (bytes_eq t (keyword_name k)) refl (named_has_form t ks) is
  where
    step : (b : Bool) → bytes_eq t (keyword_name k) ≡ b → (list_any (λ k. bytes_eq t (keyword_name k)) ks ≡ true → has_keyword_form t ≡ true) → (b || list_any (λ k. bytes_eq t (keyword_name k)) ks) ≡ true → has_keyword_form t ≡ true
    step true same rest is = ap has_keyword_form (bytes_eq-exact t (keyword_name k) same) ∙ name_has_form k
    step false same rest is = rest is

-- A keyword has a keyword's form, so a text of another form is none.
no_keyword : (t : Text) → has_keyword_form t ≡ false → is_keyword t ≡ false
no_keyword t other = by (is_keyword t) refl
  where
    by : (b : Bool) → is_keyword t ≡ b → b ≡ false
    by true is = let form = named_has_form t keywords is in absurd (cc)
    by false is = refl

-- What a text of a keyword's form stands for: itself, where it is a keyword.
form_expands : (c : Settings) (t : Text) → has_keyword_form t ≡ true → expand_iri c false true t ≡ (if is_keyword t then Some t else None)
form_expands c t form = ap (λ (b : Bool). if is_keyword t then Some t else if b then None else unwrap_or (by_definition true (definition_at t c.terms)) (Some (as_iri c false true t))) form

-- Where there are no terms and no vocabulary, any other text stands for itself.
abbrev iri_with : Terms → Option Text → Text → Text
iri_with ds v t = unwrap_or (option_or (option_and_then (λ p. if is_whole p then Some t else option_or (by_prefix p.1 (definition_at p.0 ds)) (by_form t)) (colon_parts t)) (option_map (λ x. x ++ t) v)) t

bare_iri : (c : Settings) (t : Text) → c.terms ≡ [] → c.vocab ≡ None → as_iri c false true t ≡ t
bare_iri c t empty none = ap (λ ds. iri_with ds c.vocab t) empty ∙ ap (λ v. iri_with [] v t) none ∙ by (colon_parts t)
  where
    whole : (p : Text × Text) (w s : Bool) → unwrap_or (option_or (if w then Some t else option_or (by_prefix p.1 (definition_at p.0 [])) (if s then Some t else None)) None) t ≡ t
    whole p true s = refl
    whole p false true = refl
    whole p false false = refl

    by : (p : Option (Text × Text)) → unwrap_or (option_or (option_and_then (λ p. if is_whole p then Some t else option_or (by_prefix p.1 (definition_at p.0 [])) (by_form t)) p) None) t ≡ t
    by None = refl
    by (Some p) = whole p (is_whole p) (has_scheme t)

no_terms : (ds : Terms) → length ds ≡ 0 → ds ≡ []
no_terms [] none = refl
no_terms (d ∷ ds) none = absurd (omega arith)

pub bare_expands : (c : Settings) (t : Text) → length c.terms ≡ 0 → c.vocab ≡ None → has_keyword_form t ≡ false → expand_iri c false true t ≡ Some t
bare_expands c t empty none other =
    ap (λ (b : Bool). if b then Some t else if has_keyword_form t then None else unwrap_or (by_definition true (definition_at t c.terms)) (Some (as_iri c false true t))) (no_keyword t other)
    ∙ ap (λ (b : Bool). if b then None else unwrap_or (by_definition true (definition_at t c.terms)) (Some (as_iri c false true t))) other
    ∙ ap (λ ds. unwrap_or (by_definition true (definition_at t ds)) (Some (as_iri c false true t))) (no_terms c.terms empty)
    ∙ ap (λ x. Some x) (bare_iri c t (no_terms c.terms empty) none)

-- ---- such texts as names of entries
-- What a keyword is as the name of an entry.
abbrev kept : Keyword → Name
kept Context = name.Dropped
kept k = name.Keyword k

name_is : (c : Settings) (k : Keyword) → name_of c (keyword_name k) ≡ kept k
unfolding name_of
name_is c Base = refl
name_is c k = refl

pub keyword_is : (c : Settings) (k : Keyword) (t : Text) → t ≡ keyword_name k → name_of c t ≡ kept k
keyword_is c k t is = ap (name_of c) is ∙ name_is c k

pub keyword_kept : (c : Settings) (k : Keyword) (t : Text) → t ≡ keyword_name k → bytes_eq t (codes "@context") ≡ false → name_of c t ≡ name.Keyword k
keyword_kept c Context t is other = let same : bytes_eq t (codes "@context") ≡ true = ap (λ t. bytes_eq t (codes "@context")) is in absurd (cc)
keyword_kept c k t is other = ap (name_of c) is ∙ name_is c k

any_is_some : (t : Text) (ks : List Keyword) → list_any (λ k. bytes_eq t (keyword_name k)) ks ≡ is_some (word_among t ks)
any_is_some t [] = refl
any_is_some t (k ∷ ks) = by (bytes_eq t (keyword_name k)) (any_is_some t ks)
  where
    by : (b : Bool) → list_any (λ k. bytes_eq t (keyword_name k)) ks ≡ is_some (word_among t ks) → (b || list_any (λ k. bytes_eq t (keyword_name k)) ks) ≡ is_some (if b then Some k else word_among t ks)
    by true rest = refl
    by false rest = rest

pub form_dropped : (c : Settings) (t : Text) → has_keyword_form t ≡ true → ((k : Keyword) → t ≡ keyword_name k → None ≡ Some k) → name_of c t ≡ name.Dropped
unfolding name_of
form_dropped c t form listed =
    let none : is_keyword t ≡ false = any_is_some t keywords ∙ ap is_some (found_among t None listed tt) in
    ap (λ o. if bytes_eq t (codes "@context") then name.Dropped else name_by o) (form_expands c t form ∙ ap (λ (b : Bool). if b then Some t else None) none) ∙ by (bytes_eq t (codes "@context"))
  where
    by : (b : Bool) → (if b then name.Dropped else name.Dropped) ≡ name.Dropped
    by true = refl
    by false = refl

-- A text of another form isn't `@context`.
pub other_named : (c : Settings) (t : Text) (o : Option Text) → has_keyword_form t ≡ false → expand_iri c false true t ≡ o → name_of c t ≡ name_by o
unfolding name_of
other_named c t o other is = by (bytes_eq t (codes "@context")) refl ∙ ap name_by is
  where
    by : (b : Bool) → bytes_eq t (codes "@context") ≡ b → (if bytes_eq t (codes "@context") then name.Dropped else name_by (expand_iri c false true t)) ≡ name_by (expand_iri c false true t)
    by true same = let form : has_keyword_form t ≡ true = ap has_keyword_form (bytes_eq-exact t (codes "@context") same) in absurd (cc)
    by false same = ap (λ (b : Bool). if b then name.Dropped else name_by (expand_iri c false true t)) same
