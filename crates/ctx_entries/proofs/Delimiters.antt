-- The end of a text.
use Rattle.std.proofs.Common.{◌≡◌, ℕ, zero, suc, ◌+◌, [], ◌∷◌, Some, ap, length, ◌-◌, arith}
use Rattle.std.specs.Prelude.{slice_get}
use Rattle.ctx_types.specs.Context.{Text}
use Rattle.ctx_model.specs.Words.{ends_in_delimiter, is_delimiter}

-- The last byte decides.
last_at : (t : Text) (i b : ℕ) → slice_get t i ≡ Some b → length t ≡ i + 1 → ends_in_delimiter t ≡ is_delimiter b
last_at [] i b is len = absurd (omega arith)
last_at (a ∷ []) zero b is len = let same : a ≡ b = cc in ap is_delimiter same
last_at (a ∷ []) (suc i) b is len = absurd (omega arith)
last_at (a ∷ c ∷ t) zero b is len = absurd (omega arith)
last_at (a ∷ c ∷ t) (suc i) b is len = last_at (c ∷ t) i b is (omega arith)

pub last_decides : (t : Text) (b : ℕ) → slice_get t (length t - 1) ≡ Some b → ends_in_delimiter t ≡ is_delimiter b
last_decides [] b is = absurd (cc)
last_decides (a ∷ t) b is = last_at (a ∷ t) (length (a ∷ t) - 1) b is (omega arith)
