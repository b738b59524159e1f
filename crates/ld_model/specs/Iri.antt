-- The form of an IRI (RFC 3986, section 3.1).
use Rattle.std.specs.Prelude.{ℕ, ◌==◌, ◌||◌, ◌&&◌, List, [], ◌∷◌, Bool, true, false, if◌then◌else◌, nat_le}

-- An ASCII letter.
abbrev pub is_letter : ℕ → Bool
is_letter x = (nat_le 65 x && nat_le x 90) || (nat_le 97 x && nat_le x 122)

-- A byte that a scheme may have after its first letter: a letter, a digit, `+`, `-` or `.`.
abbrev pub is_scheme_byte : ℕ → Bool
is_scheme_byte x = is_letter x || (nat_le 48 x && nat_le x 57) || (x == 43) || (x == 45) || (x == 46)

-- What is left of a scheme, up to its colon.
abbrev pub ends_scheme : List ℕ → Bool
ends_scheme [] = false
ends_scheme (x ∷ xs) = if x == 58 then true else (is_scheme_byte x && ends_scheme xs)

-- The text has the form of an IRI: a scheme stands before its first colon.
abbrev pub has_scheme : List ℕ → Bool
has_scheme [] = false
has_scheme (x ∷ xs) = is_letter x && ends_scheme xs
