-- Keywords by their names.
use Rattle.std.proofs.Common.{◌≡◌, List, [], ◌∷◌, Bool, true, false, cond, Option, Some, None, refl, sym, ap, ◌∙◌}
use Rattle.std.specs.Prelude.{IfSome}
use Rattle.std.specs.Str.{bytes_eq}
use Rattle.std.proofs.lemmas.Slice.Eq.{bytes_eq-Decides}
use Rattle.case_tables.specs.Keyword.{keyword_name}
use Rattle.case_tables.specs.declared.keyword.Keyword.{Keyword}
use Rattle.case_tables.specs.declared.keyword.Keyword.TheVariants.{Base}
use Rattle.ctx_types.specs.Context.{Text}
use Rattle.ctx_types.specs.Expansion.{keywords}
use Rattle.ctx_model.specs.Definition.{keyword_at}

at_name : (k : Keyword) → keyword_at (keyword_name k) keywords ≡ Some k
at_name Base = refl
at_name k = refl

none_at : (t : Text) (ks : List Keyword) → ((k : Keyword) → t ≡ keyword_name k → ⊥) → keyword_at t ks ≡ None
none_at t [] differs = refl
none_at t (k ∷ ks) differs = step (bytes_eq t (keyword_name k)) refl (none_at t ks differs)
  where
    step : (b : Bool) → bytes_eq t (keyword_name k) ≡ b → keyword_at t ks ≡ None → cond b (Some k) (keyword_at t ks) ≡ None
    step true is rest = absurd (differs k ((bytes_eq-Decides t (keyword_name k)).0 is))
    step false is rest = rest

-- A search by name finds the keyword of that name.
pub found_keyword : (t : Text) (r : Option Keyword) → ((k : Keyword) → t ≡ keyword_name k → r ≡ Some k) → IfSome r (λ k. t ≡ keyword_name k) → r ≡ keyword_at t keywords
found_keyword t None listed named = sym (none_at t keywords (λ k is. let found : None ≡ Some k = listed k is in absurd (cc)))
found_keyword t (Some k) listed named = sym (ap (λ u. keyword_at u keywords) named ∙ at_name k)
