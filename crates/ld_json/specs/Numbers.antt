-- The number tokens of a text, each with the place of its first byte, and which of them are accepted (RFC 8259, sections 2,
-- 6 and 7).
use Rattle.std.specs.Prelude.{ℕ, ◌+◌, ◌-◌, ◌*◌, ◌^◌, ◌==◌, ◌||◌, ◌&&◌, List, [], ◌∷◌, ◌++◌, map, Bool, false, nat_lt, nat_le, if◌then◌else◌, Option, Some, None, codes}
use Rattle.std.specs.List.{list_all, before_first, flat_map}
use Rattle.std.specs.Char.{is_ascii_digit}
use Rattle.std.specs.Str.{bytes_eq}
use Rattle.json.specs.Token.{Token, begin_object, end_object, begin_array, end_array, key, string, number, boolean, null, bad}
use Rattle.json.specs.Lex.{tokens}
use Rattle.json.specs.Word.{is_operator, is_space}
use Rattle.ld_json.specs.declared.numbers.Stand.{Stand}
use Rattle.ld_json.specs.declared.numbers.Stand.TheVariants.{Outside, Word, Inside, Escaped}

-- The byte ends a word: white space, a bracket, a brace, a colon or a comma.
abbrev pub is_break : ℕ → Bool
is_break x = is_operator x || is_space x

-- How the next byte stands to the strings and words of a text: a quote begins a string and ends it, a backslash escapes one
-- byte of it, and what begins outside is a word up to a break.
abbrev pub next : Stand → ℕ → Stand
next Outside x = if x == 34 then Inside else (if is_break x then Outside else Word)
next Word x = if is_break x then Outside else Word
next Inside x = if x == 34 then Outside else (if x == 92 then Escaped else Inside)
next Escaped x = Inside

-- A number begins at this byte: a minus or a digit, outside strings and words.
abbrev pub begins_number : Stand → ℕ → Bool
begins_number Outside x = x == 45 || is_ascii_digit x
begins_number _ x = false

-- The word that a text begins with.
abbrev pub word_of : List ℕ → List ℕ
word_of t = before_first is_break t

-- The number tokens, each with the place of its first byte.
abbrev pub numbers : Stand → ℕ → List ℕ → List (ℕ × List ℕ)
numbers p at [] = []
numbers p at (x ∷ xs) = (if begins_number p x then (at, word_of (x ∷ xs)) ∷ [] else []) ++ numbers (next p x) (at + 1) xs

-- The number that digits write, after the ones that wrote n.
abbrev pub decimal_from : ℕ → List ℕ → ℕ
decimal_from n [] = n
decimal_from n (x ∷ xs) = decimal_from (10 * n + (x - 48)) xs

-- All are digits, and the number that they write, after the ones that wrote n, is at most 2^53.
abbrev pub is_within : ℕ → List ℕ → Bool
is_within n xs = list_all is_ascii_digit xs && nat_le (decimal_from n xs) (2 ^ 53)

-- Digits without a zero in front, of a number of at most 2^53.
abbrev pub is_magnitude : List ℕ → Bool
is_magnitude [] = false
is_magnitude (x ∷ xs) = nat_lt 48 x && is_within 0 (x ∷ xs)

-- A text without the minus that it begins with.
abbrev pub without_minus : List ℕ → List ℕ
without_minus [] = []
without_minus (x ∷ xs) = if x == 45 then xs else (x ∷ xs)

-- A token that is accepted: `0`, `1.1`, or a whole number of a magnitude of at most 2^53, without a zero in front.
abbrev pub is_accepted : List ℕ → Bool
is_accepted s = bytes_eq s (codes "0") || (bytes_eq s (codes "1.1") || is_magnitude (without_minus s))

-- Where the first token begins that isn't accepted.
abbrev pub first_refused : List (ℕ × List ℕ) → Option ℕ
first_refused [] = None
first_refused (n ∷ ns) = if is_accepted n.1 then first_refused ns else Some n.0

-- Where the first number of a text begins that isn't accepted.
abbrev pub refused_number : List ℕ → Option ℕ
refused_number bytes = first_refused (numbers Outside 0 bytes)

-- The number tokens of a text, by its bytes.
abbrev pub number_tokens : List ℕ → List (List ℕ)
number_tokens bytes = map (λ n. n.1) (numbers Outside 0 bytes)

-- The text of a token of the grammar that is a number, and nothing of another.
abbrev pub token_numbers : Token → List (List ℕ)
token_numbers begin_object = []
token_numbers end_object = []
token_numbers begin_array = []
token_numbers end_array = []
token_numbers (key s) = []
token_numbers (string s) = []
token_numbers (number s) = s ∷ []
token_numbers (boolean b) = []
token_numbers null = []
token_numbers bad = []

-- The texts of the numbers among some tokens of the grammar.
abbrev pub numbers_in : List Token → List (List ℕ)
numbers_in ts = flat_map token_numbers ts

-- Each number among the tokens that the grammar of JSON finds in a text (RFC 8259, section 2) is accepted.
abbrev pub are_accepted : List ℕ → Bool
are_accepted bytes = list_all is_accepted (numbers_in (tokens bytes))
