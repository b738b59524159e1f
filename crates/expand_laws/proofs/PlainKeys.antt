-- The keys and ids of a plain document, which stay as they are where no term is defined.
use Rattle.std.proofs.Common.{◌≡◌, ℕ, List, [], ◌∷◌, Bool, true, false, not, ◌&&◌, ◌||◌, ◌==◌, Option, Some, None, refl, sym, ap, ◌∙◌, subst, codes, eqb-true, if◌then◌else◌}
use Rattle.std.specs.Option.{unwrap_or, option_or, option_and_then}
use Rattle.std.specs.List.{AllByRecursion, list_any, list_all, before_first, after_first}
use Rattle.std.specs.Char.{is_ascii_alphabetic}
use Rattle.std.specs.Str.{bytes_eq}
use Rattle.ld_model.specs.Tree.{Tree, Pairs, member_at}
use Rattle.ld_model.specs.Keys.{id_key}
use Rattle.ld_model.specs.Iri.{is_letter, is_scheme_byte, ends_scheme, has_scheme}
use Rattle.ld_model.specs.Plain.{is_iri_text, is_plain_array, is_plain_member, are_plain_members}
use Rattle.ld_model.proofs.Truths.{both}
use Rattle.ld_model.proofs.Puts.{bytes_eq-exact, bytes_eq-sym, at_later}
use Rattle.iri_ref.specs.Parts.{colon}
use Rattle.case_tables.specs.Keyword.{keyword_name}
use Rattle.case_tables.specs.declared.keyword.Keyword.{Keyword as Word}
use Rattle.ctx_types.specs.Context.{Text, Settings, initial}
use Rattle.ctx_types.specs.Expansion.{keywords, is_keyword, has_keyword_form, colon_parts, is_whole, by_parts, by_form, by_vocab, by_base, as_iri, expand_iri}
use Rattle.ctx_model.specs.Words.{same_text}
use Rattle.expand_model.specs.declared.Name.TheVariants.{Dropped, Property}
use Rattle.expand_model.specs.Scope.{expands_to}
use Rattle.expand_model.specs.Entries.{word_among, name_as, name_by, name_of}
use Rattle.expand_laws.proofs.Names.{told_apart}

-- the settings of the context that a document begins with
abbrev pub bare : Option Text → Settings
bare base = (initial base).current

-- a text with a scheme is no keyword, and has a colon behind its first letter
pub scheme_apart : (k w : Text) → has_scheme k ≡ true → has_scheme w ≡ false → bytes_eq k w ≡ false
scheme_apart k w has none = told_apart has_scheme k w has none

no_word : (k : Text) (ws : List Word) → has_scheme k ≡ true → list_all (λ w. not (has_scheme (keyword_name w))) ws ≡ true → (list_any (λ w. bytes_eq k (keyword_name w)) ws ≡ false) × (word_among k ws ≡ None)
no_word k [] has none = (refl, refl)
no_word k (w ∷ ws) has none =
    let parts = both (not (has_scheme (keyword_name w))) (list_all (λ w. not (has_scheme (keyword_name w))) ws) none in
    let rest = no_word k ws has parts.1 in
    let other : bytes_eq k (keyword_name w) ≡ false = scheme_apart k (keyword_name w) has (turned (has_scheme (keyword_name w)) parts.0) in
    (ap (λ b. b || list_any (λ w. bytes_eq k (keyword_name w)) ws) other ∙ rest.0, ap (λ b. if b then Some w else word_among k ws) other ∙ rest.1)
  where
    turned : (b : Bool) → not b ≡ true → b ≡ false
    turned true is = absurd (cc)
    turned false is = refl

no_keyword : (k : Text) → has_scheme k ≡ true → is_keyword k ≡ false
no_keyword k has = (no_word k keywords has refl).0

no_form : (k : Text) → has_scheme k ≡ true → has_keyword_form k ≡ false
no_form [] has = refl
no_form (x ∷ xs) has = by (x == 64) refl
  where
    by : (b : Bool) → (x == 64) ≡ b → (b && not (bytes_eq xs []) && list_all is_ascii_alphabetic xs) ≡ false
    by true is = let never : has_scheme (64 ∷ xs) ≡ true = subst (λ x. has_scheme (x ∷ xs) ≡ true) (eqb-true x 64 is) has in absurd (cc)
    by false is = refl

colon_in : (xs : Text) → ends_scheme xs ≡ true → list_any colon xs ≡ true
colon_in [] ends = absurd (cc)
colon_in (x ∷ xs) ends = by (x == 58) ends (colon_in xs)
  where
    by : (b : Bool) → (if b then true else (is_scheme_byte x && ends_scheme xs)) ≡ true → (ends_scheme xs ≡ true → list_any colon xs ≡ true) → (b || list_any colon xs) ≡ true
    by true ends rest = refl
    by false ends rest = rest (both (is_scheme_byte x) (ends_scheme xs) ends).1

colon_behind : (x : ℕ) (xs : Text) → has_scheme (x ∷ xs) ≡ true → list_any colon xs ≡ true
colon_behind x xs has = colon_in xs (both (is_letter x) (ends_scheme xs) has).1

pub scheme_has_colon : (k : Text) → has_scheme k ≡ true → list_any colon k ≡ true
scheme_has_colon [] has = absurd (cc)
scheme_has_colon (x ∷ xs) has = by (colon x)
  where
    by : (b : Bool) → (b || list_any colon xs) ≡ true
    by true = refl
    by false = colon_behind x xs has

parts_of : (k : Text) → has_scheme k ≡ true → colon_parts k ≡ Some (before_first colon k, after_first colon k)
parts_of [] has = absurd (cc)
parts_of (x ∷ xs) has = ap (λ b. if b then Some (before_first colon (x ∷ xs), after_first colon (x ∷ xs)) else None) (colon_behind x xs has)

module _ (base : Option Text) where
  by_its_parts : (k : Text) (p : Text × Text) → has_scheme k ≡ true → by_parts (bare base) k p ≡ Some k
  by_its_parts k p has = by (is_whole p)
    where
      by : (b : Bool) → (if b then Some k else by_form k) ≡ Some k
      by true = refl
      by false = ap (λ b. if b then Some k else None) has

  iri_stays : (relative vocab : Bool) (k : Text) → has_scheme k ≡ true → as_iri (bare base) relative vocab k ≡ k
  iri_stays relative vocab k has =
      ap (λ p. unwrap_or (option_or (option_and_then (by_parts (bare base) k) p) (by_vocab (bare base) vocab k)) (by_base base relative k)) (parts_of k has)
      ∙ ap (λ p. unwrap_or (option_or p (by_vocab (bare base) vocab k)) (by_base base relative k)) (by_its_parts k (before_first colon k, after_first colon k) has)

  pub expands_to_itself : (relative vocab : Bool) (k : Text) → has_scheme k ≡ true → expand_iri (bare base) relative vocab k ≡ Some k
  expands_to_itself relative vocab k has =
      ap (λ b. if b then Some k else if has_keyword_form k then None else Some (as_iri (bare base) relative vocab k)) (no_keyword k has)
      ∙ ap (λ b. if b then None else Some (as_iri (bare base) relative vocab k)) (no_form k has)
      ∙ ap (λ t. Some t) (iri_stays relative vocab k has)

  -- the name of a property
  named_by : (k : Text) → has_scheme k ≡ true → name_by (Some k) ≡ Property k
  named_by k has =
      ap (λ w. name_as w k) (no_word k keywords has refl).1
      ∙ ap (λ b. if b then Property k else Dropped) (scheme_has_colon k has)

  pub is_property : (k : Text) → has_scheme k ≡ true → name_of (bare base) k ≡ Property k
  unfolding name_of
  is_property k has =
      ap (λ b. if b then Dropped else name_by (expand_iri (bare base) false true k)) (scheme_apart k (codes "@context") has refl)
      ∙ ap name_by (expands_to_itself false true k has)
      ∙ named_by k has

-- the keys in a plain document
pub data IsPlainKey : Text → Type 0 where
  of_id : IsPlainKey (codes "@id")
  of_value : IsPlainKey (codes "@value")
  of_scheme : (k : Text) → has_scheme k ≡ true → IsPlainKey k

abbrev pub HasPlainKey : Text × Tree → Type 0
HasPlainKey m = IsPlainKey m.0

pub key_stays : (base : Option Text) (k : Text) → IsPlainKey k → expand_iri (bare base) false true k ≡ Some k
key_stays base _ of_id = refl
key_stays base _ of_value = refl
key_stays base _ (of_scheme k has) = expands_to_itself base false true k has

-- none is this word
abbrev pub is_other : Text → Bool
is_other w = not (has_scheme w || bytes_eq (codes "@id") w || bytes_eq (codes "@value") w)

pub all_off : (a b c : Bool) → not (a || b || c) ≡ true → (a ≡ false) × (b ≡ false) × (c ≡ false)
all_off true b c is = absurd (cc)
all_off false true c is = absurd (cc)
all_off false false true is = absurd (cc)
all_off false false false is = (refl, refl, refl)

pub key_apart : (w : Text) (k : Text) → is_other w ≡ true → IsPlainKey k → bytes_eq k w ≡ false
key_apart w _ other of_id = (all_off (has_scheme w) (bytes_eq (codes "@id") w) (bytes_eq (codes "@value") w) other).1
key_apart w _ other of_value = (all_off (has_scheme w) (bytes_eq (codes "@id") w) (bytes_eq (codes "@value") w) other).2
key_apart w _ other (of_scheme k has) = scheme_apart k w has (all_off (has_scheme w) (bytes_eq (codes "@id") w) (bytes_eq (codes "@value") w) other).0

pub expands_to_none : (base : Option Text) (w k : Text) → is_other w ≡ true → IsPlainKey k → expands_to (bare base) w k ≡ false
expands_to_none base w k other is = ap (λ t. same_text t (Some w)) (key_stays base k is) ∙ key_apart w k other is

pub absent : (w : Text) (ms : Pairs) → AllByRecursion (λ m. bytes_eq m.0 w ≡ false) ms → member_at w ms ≡ None
absent w [] all = refl
absent w (m ∷ ms) all = at_later w m ms (bytes_eq-sym w m.0 ∙ all.0) ∙ absent w ms all.1

-- the keys of a plain node object
pub member_by : {X : Type 0} (m : Text × Tree) → is_plain_member m ≡ true → (m.0 ≡ id_key → is_iri_text m.1 ≡ true → X) → (has_scheme m.0 ≡ true → is_plain_array m.1 ≡ true → X) → X
member_by {X = X} m plain id property = by (bytes_eq m.0 id_key) refl plain
  where
    by : (b : Bool) → bytes_eq m.0 id_key ≡ b → (if b then is_iri_text m.1 else (has_scheme m.0 && is_plain_array m.1)) ≡ true → X
    by true same iri = id (bytes_eq-exact m.0 id_key same) iri
    by false other rest = let parts = both (has_scheme m.0) (is_plain_array m.1) rest in property parts.0 parts.1

pub member_key : (m : Text × Tree) → is_plain_member m ≡ true → IsPlainKey m.0
member_key m plain = member_by m plain (λ same iri. subst IsPlainKey (sym same) of_id) (λ has entries. of_scheme m.0 has)

pub member_keys : (ms : Pairs) → are_plain_members ms ≡ true → AllByRecursion HasPlainKey ms
member_keys [] plain = tt
member_keys (m ∷ ms) plain = let parts = both (is_plain_member m) (are_plain_members ms) plain in (member_key m parts.0, member_keys ms parts.1)

-- none is a word without a scheme, but for `@id`
member_apart : (w : Text) (m : Text × Tree) → has_scheme w ≡ false → bytes_eq id_key w ≡ false → is_plain_member m ≡ true → bytes_eq m.0 w ≡ false
member_apart w m none other plain = member_by m plain (λ same iri. ap (λ k. bytes_eq k w) same ∙ other) (λ has entries. scheme_apart m.0 w has none)

pub not_in_plain : (w : Text) (ms : Pairs) → has_scheme w ≡ false → bytes_eq id_key w ≡ false → are_plain_members ms ≡ true → AllByRecursion (λ m. bytes_eq m.0 w ≡ false) ms
not_in_plain w [] none other plain = tt
not_in_plain w (m ∷ ms) none other plain =
    let parts = both (is_plain_member m) (are_plain_members ms) plain in (member_apart w m none other parts.0, not_in_plain w ms none other parts.1)
