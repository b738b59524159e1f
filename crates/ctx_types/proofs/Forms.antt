-- Keywords, and the parts of a text around its first colon.
use Rattle.std.proofs.Common.{◌≡◌, ℕ, List, [], ◌∷◌, Bool, true, false, ◌||◌, Option, Some, None, length, inl, inr, ◌⊎◌, refl, sym, ap, ◌∙◌, arith}
use Rattle.std.specs.Prelude.{is_some}
use Rattle.std.specs.List.{list_any, position_or_len}
use Rattle.std.proofs.lemmas.Bool.{cases_Bool}
use Rattle.iri_ref.specs.Parts.{colon}
use Rattle.std.specs.Str.{bytes_eq}
use Rattle.std.specs.Prelude.{IfSome}
use Rattle.case_tables.specs.Keyword.{keyword_name}
use Rattle.case_tables.specs.declared.keyword.Keyword.{Keyword}
use Rattle.case_tables.specs.declared.keyword.Keyword.TheVariants.{Base}
use Rattle.ld_model.proofs.Puts.{bytes_eq-exact}
use Rattle.ctx_types.specs.Context.{Text}
use Rattle.ctx_types.specs.Expansion.{is_keyword, keywords, colon_parts}

name_is_keyword : (k : Keyword) → is_keyword (keyword_name k) ≡ true
name_is_keyword Base = refl
name_is_keyword k = refl

none_named : (t : Text) (ks : List Keyword) → ((k : Keyword) → t ≡ keyword_name k → ⊥) → list_any (λ k. bytes_eq t (keyword_name k)) ks ≡ false
none_named t [] differs = refl
none_named t (k ∷ ks) differs = step (bytes_eq t (keyword_name k)) refl (none_named t ks differs)
  where
    step : (b : Bool) → bytes_eq t (keyword_name k) ≡ b → list_any (λ k. bytes_eq t (keyword_name k)) ks ≡ false → (b || list_any (λ k. bytes_eq t (keyword_name k)) ks) ≡ false
    step true is rest = absurd (differs k (bytes_eq-exact t (keyword_name k) is))
    step false is rest = rest

-- a search by name finds a keyword just where the text is one
pub found_is_keyword : (t : Text) (r : Option Keyword) → ((k : Keyword) → t ≡ keyword_name k → r ≡ Some k) → IfSome r (λ k. t ≡ keyword_name k) → is_some r ≡ is_keyword t
found_is_keyword t None listed named = sym (none_named t keywords (λ k is. let found : None ≡ Some k = listed k is in absurd (cc)))
found_is_keyword t (Some k) listed named = sym (ap is_keyword named ∙ name_is_keyword k)

lacks_colon : (s : List ℕ) → position_or_len colon s ≡ length s → list_any colon s ≡ false
lacks_colon [] none = refl
lacks_colon (b ∷ bs) none = by_test (cases_Bool (colon b)) (lacks_colon bs)
  where
    by_test : (colon b ≡ true) ⊎ (colon b ≡ false) → (position_or_len colon bs ≡ length bs → list_any colon bs ≡ false) → list_any colon (b ∷ bs) ≡ false
    by_test (inl passes) rest = absurd (let k = rw passes at none in omega arith)
    by_test (inr fails) rest = let k = rw fails at none in rw fails (rest (omega arith))

-- a text without a colon has no parts
pub without_colon : (s : List ℕ) → position_or_len colon s ≡ length s → None ≡ colon_parts s
without_colon [] none = refl
without_colon (b ∷ bs) none = by_test (cases_Bool (colon b))
  where
    by_test : (colon b ≡ true) ⊎ (colon b ≡ false) → None ≡ colon_parts (b ∷ bs)
    by_test (inl passes) = absurd (let k = rw passes at none in omega arith)
    by_test (inr fails) = let k = rw fails at none in rw (lacks_colon bs (omega arith)) refl
