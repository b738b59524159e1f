use Rattle.std.proofs.Common.{◌≡◌, Bool, true, false, None, refl}
use Rattle.std.specs.Str.{is_utf8}
use Rattle.std.proofs.lemmas.Str.{is_utf8-from_IsUtf8, IsUtf8-from_is_utf8}
use Rattle.ctx_store.proofs.index.entry_on.Goals as goal
use Rattle.ctx_store.specs.Index.{entry_on}

pub returns-in-Ok : goal.returns-in-Ok
returns-in-Ok c =
    let same = c.in-Ok.ensures.cases in
    rw (is_utf8-from_IsUtf8 c.args.line.now same.1, ← same.0) c.entry_in.ensures

pub returns-in-Err : goal.returns-in-Err
returns-in-Err c = by_utf8 (is_utf8 c.args.line.now) refl
  where
    by_utf8 : (b : Bool) → is_utf8 c.args.line.now ≡ b → None ≡ entry_on c.args.line.now
    by_utf8 true utf8 = absurd (c.in-Err.ensures.cases.0 (IsUtf8-from_is_utf8 c.args.line.now utf8))
    by_utf8 false other = rw other refl
