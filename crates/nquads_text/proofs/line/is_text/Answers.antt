use Rattle.std.proofs.Common.{◌≡◌, Bool, true, false, List, ℕ, refl, sym}
use Rattle.std.proofs.lemmas.Str.{is_utf8-from_IsUtf8, IsUtf8-from_is_utf8}
use Rattle.std.specs.Str.{IsUtf8, is_utf8}
use Rattle.nquads_text.proofs.line.is_text.Goals as goal

no_text : (bs : List ℕ) (q : Bool) → is_utf8 bs ≡ q → (IsUtf8 bs → ⊥) → false ≡ q
no_text bs true is none = absurd (none (IsUtf8-from_is_utf8 bs is))
no_text bs false is none = refl

pub returns-in-Ok : goal.returns-in-Ok
returns-in-Ok c = sym (is_utf8-from_IsUtf8 c.args.bytes.now c.in-Ok.ensures.cases.1)

pub returns-in-Err : goal.returns-in-Err
returns-in-Err c = no_text c.args.bytes.now (is_utf8 c.args.bytes.now) refl c.in-Err.ensures.cases.0
