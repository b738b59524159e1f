-- The characters between `<` and `>` and between quotation marks, raw or escaped (RDF 1.1 N-Quads, section 4: IRIREF,
-- STRING_LITERAL_QUOTE, ECHAR, UCHAR).
use Rattle.std.specs.Prelude.{ℕ, zero, suc, ◌+◌, ◌*◌, ◌==◌, Bool, ◌||◌, not, if◌then◌else◌, List, [], ◌∷◌, ◌++◌, drop, Option, Some, None}
use Rattle.std.specs.Option.{option_map, option_and_then}
use Rattle.std.specs.Char.{is_digit, digit_value, encode_utf8}
use Rattle.std.specs.Str.{is_utf8, all_scalars}
use Rattle.iri_ref.specs.Parts.{is_iri_byte}
use Rattle.nquads_terminals.specs.declared.enclosed.Enclosed.{Enclosed}
use Rattle.nquads_terminals.specs.declared.enclosed.Enclosed.TheVariants as terminal

-- ---- escapes

-- The value of a hexadecimal digit of either case.
abbrev pub hex_value : ℕ → Option ℕ
hex_value b = if is_digit b 16 then Some (digit_value b) else None

-- The number that four hexadecimal digits write.
abbrev pub hex_number : ℕ → ℕ → ℕ → ℕ → Option ℕ
hex_number a b c d = option_and_then (λ w. option_and_then (λ x. option_and_then (λ y. option_map (λ z. 4096 * w + 256 * x + 16 * y + z) (hex_value d)) (hex_value c)) (hex_value b)) (hex_value a)

-- The number that the first four bytes write.
abbrev pub front_number : List ℕ → Option ℕ
front_number (a ∷ b ∷ c ∷ d ∷ bs) = hex_number a b c d
front_number _ = None

-- The character of a number: a surrogate has none, nor has a number above U+10FFFF.
abbrev pub character : ℕ → Option ℕ
character n = if all_scalars (n ∷ []) then Some n else None

-- What follows `\u`: four hexadecimal digits.
abbrev pub short_escape : List ℕ → Option ℕ
short_escape bs = option_and_then character (front_number bs)

-- What follows `\U`: eight hexadecimal digits.
abbrev pub long_escape : List ℕ → Option ℕ
long_escape bs = option_and_then (λ high. option_and_then (λ low. character (65536 * high + low)) (front_number (drop 4 bs))) (front_number bs)

-- ECHAR without its backslash: `t b n r f " ' \`.
abbrev pub letter_escape : ℕ → Option ℕ
letter_escape b = if b == 116 then Some 9 else (if b == 98 then Some 8 else (if b == 110 then Some 10 else (if b == 114 then Some 13 else (if b == 102 then Some 12 else (if b == 34 || b == 39 || b == 92 then Some b else None)))))

-- ---- the two terminals that have such characters

-- What closes the terminal: `>` or `"`.
abbrev pub closing : Enclosed → ℕ
closing terminal.Iri = 62
closing terminal.Quoted = 34

-- The bytes that stand for themselves. In an IRI these are all but U+0000 to U+0020 and ``< > " { } | ^ ` \``, in a string
-- all but `"`, `\`, LF and CR.
abbrev pub is_raw : Enclosed → ℕ → Bool
is_raw terminal.Iri b = is_iri_byte b
is_raw terminal.Quoted b = not (b == 34 || b == 92 || b == 10 || b == 13)

-- An IRI has no ECHAR.
abbrev pub named : Enclosed → ℕ → Option ℕ
named terminal.Iri b = None
named terminal.Quoted b = letter_escape b

-- What follows a backslash: the character, and how many bytes write it.
abbrev pub escape : Enclosed → List ℕ → Option (ℕ × ℕ)
escape kind [] = None
escape kind (b ∷ bs) = if b == 117 then option_map (λ c. (c, 5)) (short_escape bs) else (if b == 85 then option_map (λ c. (c, 9)) (long_escape bs) else option_map (λ c. (c, 1)) (named kind b))

-- These bytes, in front of the value that was read.
abbrev pub onto : List ℕ → Option (List ℕ × List ℕ) → Option (List ℕ × List ℕ)
onto front read = option_map (λ r. (front ++ r.0, r.1)) read

-- The value up to the closing mark, and what stands behind that. `skip` counts the bytes at the front that belong to an
-- escape whose character has been read.
abbrev pub enclosed : Enclosed → ℕ → List ℕ → Option (List ℕ × List ℕ)
enclosed kind skip [] = None
enclosed kind (suc skip) (b ∷ bs) = enclosed kind skip bs
enclosed kind zero (b ∷ bs) = if b == closing kind then Some ([], bs) else (if b == 92 then option_and_then (λ e. onto (encode_utf8 e.0) (enclosed kind e.1 bs)) (escape kind bs) else (if is_raw kind b then onto (b ∷ []) (enclosed kind zero bs) else None))

-- What was read, where it passes the test.
abbrev pub only : (List ℕ × List ℕ → Bool) → Option (List ℕ × List ℕ) → Option (List ℕ × List ℕ)
only test read = option_and_then (λ r. if test r then Some r else None) read

-- The same, where the value is a text. An escape writes whole characters, so it is one exactly where the raw bytes are.
abbrev pub enclosed_text : Enclosed → List ℕ → Option (List ℕ × List ℕ)
enclosed_text kind bs = only (λ r. is_utf8 r.0) (enclosed kind zero bs)
