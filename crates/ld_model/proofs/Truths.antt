-- Two answers at once.
use Rattle.std.proofs.Common.{◌≡◌, Bool, true, false, ◌&&◌, refl}

-- Where both hold together, each holds.
pub both : (a b : Bool) → (a && b) ≡ true → (a ≡ true) × (b ≡ true)
both true b is = (refl, is)
both false b is = absurd (cc)

-- Nothing holds together with what doesn't.
pub and-false : (b : Bool) → (b && false) ≡ false
and-false true = refl
and-false false = refl
