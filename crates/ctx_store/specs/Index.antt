-- The index of a folder of contexts: its lines, and what each says.
use Rattle.std.specs.Prelude.{ℕ, ◌+◌, Bool, true, false, ◌&&◌, ◌||◌, not, if◌then◌else◌, List, [], ◌∷◌, ◌++◌, length, Option, Some, None, nat_le}
use Rattle.std.specs.Option.{option_map_or, option_and_then}
use Rattle.std.specs.List.{list_all, list_any, before_first}
use Rattle.std.specs.Char.{is_ascii_alphanumeric}
use Rattle.std.specs.Str.{is_utf8, bytes_eq}
use Rattle.iri_ref.specs.Parts.{is, part_after, is_well_formed}

-- A line feed stands in front.
abbrev pub begins_with_line_feed : List ℕ → Bool
begins_with_line_feed [] = false
begins_with_line_feed (b ∷ bs) = is 10 b

-- No byte is left.
abbrev pub is_none : List ℕ → Bool
is_none [] = true
is_none (b ∷ bs) = false

-- The lines with this byte in front of the first.
abbrev pub in_front : ℕ → List (List ℕ) → List (List ℕ)
in_front b [] = (b ∷ []) ∷ []
in_front b (l ∷ ls) = (b ∷ l) ∷ ls

-- The lines of a text. A line feed ends a line, and a carriage return right before it is dropped. What stands behind the
-- last line feed is a line where it is not empty.
abbrev pub lines : List ℕ → List (List ℕ)
lines [] = []
lines (b ∷ bs) = if is 10 b then [] ∷ lines bs else (if begins_with_line_feed bs && is 13 b then lines bs else in_front b (lines bs))

-- A line without the carriage return at its end, where there is one.
abbrev pub without_return : List ℕ → List ℕ
without_return [] = []
without_return (b ∷ bs) = if is_none bs && is 13 b then [] else b ∷ without_return bs

-- A byte that may stand in a file's name: an ASCII letter or digit, `.`, `_` or `-`.
abbrev pub is_name_byte : ℕ → Bool
is_name_byte b = is_ascii_alphanumeric b || is 46 b || is 95 b || is 45 b

-- A dot stands in front.
abbrev pub begins_with_dot : List ℕ → Bool
begins_with_dot [] = false
begins_with_dot (b ∷ bs) = is 46 b

-- A file's name: 1 to 255 of these bytes, and no dot in front.
abbrev pub is_file_name : List ℕ → Bool
is_file_name name = nat_le 1 (length name) && nat_le (length name) 255 && not (begins_with_dot name) && list_all is_name_byte name

-- An IRI and the name of its file, where they are ones.
abbrev pub entry_of : List ℕ → List ℕ → Option (List ℕ × List ℕ)
entry_of iri name = if is_well_formed iri && is_file_name name then Some (iri, name) else None

-- The IRI and the file's name on a line: UTF-8, and one space between them.
abbrev pub entry_on : List ℕ → Option (List ℕ × List ℕ)
entry_on line = if is_utf8 line then option_and_then (entry_of (before_first (is 32) line)) (part_after (is 32) line) else None

-- The IRI on a line, if there is one.
abbrev pub iris_on : List ℕ → List (List ℕ)
iris_on line = option_map_or (λ e. e.0 ∷ []) (entry_on line) []

-- A line breaks the index's rule: it is not empty, and it has no IRI and file's name, or its IRI is among those before it.
abbrev pub breaks : List (List ℕ) → List ℕ → Bool
breaks before line = not (bytes_eq line []) && option_map_or (λ e. list_any (λ iri. bytes_eq iri e.0) before) (entry_on line) true

-- The number of the first line that breaks the rule, given the IRIs before these lines and the first line's number.
abbrev pub first_broken : List (List ℕ) → ℕ → List (List ℕ) → Option ℕ
first_broken before n [] = None
first_broken before n (l ∷ ls) = if breaks before l then Some n else first_broken (iris_on l ++ before) (n + 1) ls
