-- A place as text: a JSON Pointer (RFC 6901, sections 3 and 5).
use Rattle.std.specs.Prelude.{ℕ, ◌==◌, List, [], ◌∷◌, ◌++◌, if◌then◌else◌, codes}
use Rattle.std.specs.Fmt.{decimal}
use Rattle.std.specs.List.{flat_map}
use Rattle.std.specs.Char.{encode_utf8}
use Rattle.std.specs.Str.{chars}
use Rattle.ld_json.specs.declared.location.Step.{Step}
use Rattle.ld_json.specs.declared.location.Step.TheVariants.{Key, Item}

-- What stands for a character of a key: `~0` for `~`, `~1` for `/`, and else the character.
abbrev pub escaped_char : ℕ → List ℕ
escaped_char c = if c == 126 then codes "~0" else (if c == 47 then codes "~1" else encode_utf8 c)

-- The key, escaped, or the item's number.
abbrev pub step_text : Step → List ℕ
step_text (Key k) = flat_map escaped_char (chars k)
step_text (Item number) = decimal number

-- Each step, after a slash.
abbrev pub steps_text : List Step → List ℕ
steps_text [] = []
steps_text (s ∷ ss) = 47 ∷ (step_text s ++ steps_text ss)

-- The place's pointer. The empty place is printed as `the root`, so that a line can name it.
abbrev pub pointer : List Step → List ℕ
pointer [] = codes "the root"
pointer (s ∷ ss) = steps_text (s ∷ ss)
