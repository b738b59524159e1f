-- The canonical form of a whole number as an `xsd:double` (JSON-LD 1.1 API, section 8.6).
use Rattle.std.specs.Prelude.{ℕ, ℤ, ◌==◌, ◌++◌, List, [], ◌∷◌, length, if◌then◌else◌, decimal, unsigned_abs}
use Rattle.std.specs.Int.{is_negative}
use Rattle.std.specs.Fmt.{sign_text}

-- A digit ahead of others, where a zero with nothing behind it is left out.
abbrev pub ahead : ℕ → List ℕ → List ℕ
ahead d [] = if d == 48 then [] else d ∷ []
ahead d (e ∷ es) = d ∷ e ∷ es

abbrev pub without_trailing_zeros : List ℕ → List ℕ
without_trailing_zeros [] = []
without_trailing_zeros (d ∷ ds) = ahead d (without_trailing_zeros ds)

-- At least one digit.
abbrev pub or_zero : List ℕ → List ℕ
or_zero [] = 48 ∷ []
or_zero (d ∷ ds) = d ∷ ds

-- The digits behind the point.
abbrev pub fraction : List ℕ → List ℕ
fraction ds = or_zero (without_trailing_zeros ds)

-- The first digit, `.`, the further ones, `E`, and how many digits the first one stands ahead of.
abbrev pub scientific : List ℕ → List ℕ
scientific [] = []
scientific (d ∷ ds) = d ∷ 46 ∷ (fraction ds ++ 69 ∷ decimal (length ds))

abbrev pub double_form : ℤ → List ℕ
double_form z = sign_text (is_negative z) ++ scientific (decimal (unsigned_abs z))
