-- Language tags (RDF 1.1 N-Quads, the grammar: LANGTAG, without its `@`).
use Rattle.std.specs.Prelude.{ℕ, ◌==◌, ◌&&◌, not, Bool, false, List, [], ◌∷◌, length}
use Rattle.std.specs.List.{list_all, slice_split}
use Rattle.std.specs.Char.{is_ascii_alphabetic, is_ascii_alphanumeric}

-- `[a-zA-Z]+`
abbrev pub is_letters : List ℕ → Bool
is_letters s = not (length s == 0) && list_all is_ascii_alphabetic s

-- `[a-zA-Z0-9]+`
abbrev pub is_letters_or_digits : List ℕ → Bool
is_letters_or_digits s = not (length s == 0) && list_all is_ascii_alphanumeric s

abbrev pub are_tag_parts : List (List ℕ) → Bool
are_tag_parts [] = false
are_tag_parts (first ∷ more) = is_letters first && list_all is_letters_or_digits more

-- `[a-zA-Z]+(-[a-zA-Z0-9]+)*`, by the parts between the hyphens.
abbrev pub is_tag : List ℕ → Bool
is_tag s = are_tag_parts (slice_split (λ b. b == 45) s)
