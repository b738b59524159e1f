use Rattle.std.proofs.Common.{Bool, true, false, ◌≡◌, List, ℕ, refl, subst, ap, ◌∙◌}
use Rattle.std.proofs.lemmas.Str.{is_utf8-from_IsUtf8, IsUtf8-from_is_utf8, IsUtf8-string_bytes}
use Rattle.std.specs.Str.{IsUtf8, is_utf8}
use Rattle.std.specs.String.{string_bytes}
use Rattle.nquads_terminals.proofs.enclosed.text_of.Goals as goal

no_text : (bs : List ℕ) (q : Bool) → is_utf8 bs ≡ q → (IsUtf8 bs → ⊥) → q ≡ false
no_text bs true is none = absurd (none (IsUtf8-from_is_utf8 bs is))
no_text bs false is none = refl

pub returns-in-Ok-clause-text : goal.returns-in-Ok-clause-text
returns-in-Ok-clause-text c =
    let same : string_bytes c.in-Ok.string ≡ c.args.bytes.items = ap (λ v. v.items) c.in-Ok.ensures.ok in
    (is_utf8-from_IsUtf8 _ (subst IsUtf8 same (IsUtf8-string_bytes c.in-Ok.string)), c.in_ok-from_string-in-Ok.ensures ∙ same)

pub returns-clause-none : goal.returns-clause-none
returns-clause-none c = no_text c.args.bytes.items (is_utf8 c.args.bytes.items) refl (λ text. let ok = c.in-Err.ensures.succeeds text in cc)
