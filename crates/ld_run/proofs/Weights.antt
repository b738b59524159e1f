-- Weights, read digit by digit.
use Rattle.std.proofs.Common.{ℕ, ◌≡◌, ◌+◌, ◌-◌, ◌*◌, ◌<◌, nat_le, Bool, true, false, List, [], ◌∷◌, Option, None, Some, refl, sym, ap, ◌∙◌, arith}
use Rattle.std.specs.Prelude.{if◌then◌else◌}
use Rattle.ld_run.specs.Words.{is_digit_from, number_with}

-- A number that is too great is so with any digits behind it.
pub too_great : (n : ℕ) (ds : List ℕ) → 1000000 < n → None ≡ number_with n ds
too_great n [] h =
    let above : nat_le n 1000000 ≡ false = grind (arith, h) in
    sym (ap (λ b. if b then Some n else None) above)
too_great n (d ∷ ds) h = by (is_digit_from 48 d) (too_great (n * 10 + (d - 48)) ds (omega (arith, h)))
  where
    by : (b : Bool) → None ≡ number_with (n * 10 + (d - 48)) ds → None ≡ (if b then number_with (n * 10 + (d - 48)) ds else None)
    by true rest = rest
    by false rest = refl
